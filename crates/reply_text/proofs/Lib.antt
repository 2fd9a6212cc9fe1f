mod Puts
mod LineFeeds
mod Marks
mod Told
