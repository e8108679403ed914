pub mod Groups
pub mod Layouts
pub mod Books
pub mod Recipes
pub mod Rows
pub mod Answers
pub mod Figure
pub mod Worked
