-- How far a source is read: to its end, and no further than a number of octets.
use Rattle.std.specs.Prelude.{ℕ, ◌==◌, ◌≤◌, ◌&&◌, nat_lt, List, length, Bool, false, Option, Result, Ok, Err}
use Rattle.std.specs.Io.KnownBytes.{Consumes}

-- whether a read tells the end: it gives no octet, though there is room for one
abbrev pub tells_end : {E : Type 0} → Result ℕ E → List ℕ → Bool
tells_end (Ok n) buffer = (n == 0) && nat_lt 0 (length buffer)
tells_end (Err e) buffer = false

-- where it is told what is left, at most so many octets were taken from its front
abbrev pub TakesAtMost : ℕ → Option (List ℕ) → Option (List ℕ) → Type 0
TakesAtMost most left rest = (taken : List ℕ) × (length taken ≤ most) × Consumes left rest taken
