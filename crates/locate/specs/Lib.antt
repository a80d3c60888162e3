-- The words of the plan test's and the locator's code.
pub mod Answers
