pub mod Crowds
pub mod Lexed
pub mod Numbers
pub mod InQuotes
