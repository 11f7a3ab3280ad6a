mod Answering
mod Contents
mod Limits
mod Names
mod Passing
mod Untaken
