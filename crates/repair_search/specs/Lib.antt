pub mod FewEdits
