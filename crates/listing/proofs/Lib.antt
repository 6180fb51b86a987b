mod Groups
mod Unwound
