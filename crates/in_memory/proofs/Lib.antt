mod Cuts
mod Folders
mod Histories
mod Replies
mod StatementLists
