-- The numbers that a call from C returns. A call that is refused returns the code of the refusal.
use Rattle.std.specs.Prelude.{ℕ}

abbrev pub done : ℕ
done = 0

-- a name isn't one
abbrev pub bad_name : ℕ
bad_name = 1

-- an allocation failed
abbrev pub no_memory : ℕ
no_memory = 40

-- the handle has no office
abbrev pub closed : ℕ
closed = 42

-- a text is longer than the buffer
abbrev pub too_short : ℕ
too_short = 60

-- there is no such table, or no such row in it
abbrev pub absent : ℕ
absent = 61
