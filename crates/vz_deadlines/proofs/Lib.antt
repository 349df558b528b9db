mod Begun
mod Dues
mod Freed
mod Halves
mod Keeps
mod Found_at
mod Stands
