-- What `imgcheck` reads and prints at most.
use Rattle.std.specs.Prelude.{ℕ, ◌+◌}

-- one byte more than a program may have is enough to say that it has too many
abbrev pub input_bytes : ℕ
input_bytes = 32768 + 1

-- any report's bytes
abbrev pub out_bytes : ℕ
out_bytes = 512
