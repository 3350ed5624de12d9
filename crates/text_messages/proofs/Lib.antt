pub mod AddedMessages
