-- Laws of a path's places.
mod Places
