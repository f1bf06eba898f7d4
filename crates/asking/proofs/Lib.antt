-- The law of what is printed.
mod Printing
