-- Lists by their elements, equal lists, filled lists.
pub mod Columns
pub mod FilledLists
pub mod FirstElements
pub mod SameLists
