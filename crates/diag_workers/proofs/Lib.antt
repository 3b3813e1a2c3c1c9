mod Asking
mod Compared
mod Places
mod Recording
mod Outs
mod Headlines
