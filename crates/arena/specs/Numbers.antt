-- The numbers of document 01, each written once here and once as a constant of the arena type.
use Rattle.std.specs.Prelude.{ℕ}

-- the bytes after a chunk's end that stand for the Rust footer: reserved, never read or written
abbrev pub footer : ℕ
footer = 48

-- what sizing sets aside for the footer and for the allocator beneath
abbrev pub overhead : ℕ
overhead = 64

-- the usable size that a first chunk aims at
abbrev pub default_size : ℕ
default_size = 448

abbrev pub page : ℕ
page = 4096

-- starts and usable sizes are multiples of it
abbrev pub step : ℕ
step = 16

-- how many chunks the table holds
abbrev pub places : ℕ
places = 32

-- the largest region and the largest size
abbrev pub most : ℕ
most = 1073741824

abbrev pub largest_align : ℕ
largest_align = 4096

abbrev pub largest_minimum : ℕ
largest_minimum = 16
