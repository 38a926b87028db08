-- `calls::bytes::set_all` meets its contract: after i turns the first i bytes are the value and the rest stand. Assumes nothing.
mod Stores
