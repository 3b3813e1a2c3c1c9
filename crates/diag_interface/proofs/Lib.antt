mod Outlooks
mod Texts
mod Times
mod Windows
