mod Reading
mod Listing
