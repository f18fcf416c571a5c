-- What a book's day is, file by file: its words, the tables, what each call means, and what the events tell by themselves.
pub mod Words
pub mod Tables
pub mod Shown
pub mod Fills
pub mod Refusals
pub mod Prices
pub mod Trading
pub mod Book
pub mod Make
pub mod Standing
pub mod Customers
pub mod Accounts
pub mod Sample
pub mod Busy
pub mod Refusing
pub mod Telling
