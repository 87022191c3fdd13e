mod Digits
mod Listing
