-- Where octets pass the limit of what is read whole.
use Rattle.std.specs.Prelude.{ℕ, ◌+◌, ◌==◌, List, take, count_by}

-- how many octets a script or a zone text has at most
abbrev pub limit : ℕ
limit = 16777216

-- the line of the first octet past the limit: lines are numbered from 1, and LF ends each
unfoldable pub line_past : List ℕ → ℕ
line_past octets = 1 + count_by (λ octet. octet == 10) (take limit octets)
