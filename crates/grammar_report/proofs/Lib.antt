mod BeforeDots
mod Outcomes
mod ReportMessages
