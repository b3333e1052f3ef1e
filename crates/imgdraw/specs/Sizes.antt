-- What `imgdraw` grants, reads and prints at most.
use Rattle.std.specs.Prelude.{ℕ, ◌+◌}
use Rattle.meaning.specs.Call.{Grants}

-- document 01's, and document 02's calls
abbrev pub granted : Grants
granted = record { steps = 1000000; shapes = 1024; entries = 1024; text_bytes = 16384; calls = 64 }

-- the out slice
abbrev pub out_bytes : ℕ
out_bytes = 65536

-- a first line of at most 22 bytes, and one byte more than a program may have: enough to say that it has too many
abbrev pub input_bytes : ℕ
input_bytes = 22 + 32768 + 1
