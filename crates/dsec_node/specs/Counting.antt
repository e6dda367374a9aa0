-- For how long a node counts (RFC 4035 4.5, 5.3.3).
use Rattle.std.specs.Prelude.{◌⊎◌, ℕ, ◌+◌, ◌-◌, ◌<◌, nat_lt, if◌then◌else◌}
use Rattle.dsec_nodes.specs.Nodes.{Node}

-- a moment before the node was made, or later than it is kept
abbrev pub IsExpired : Node → ℕ → Type 0
IsExpired n now = (now < n.made) ⊎ (n.made + n.valid_for < now)

-- for how many seconds more it is kept: none before it was made, and none later
abbrev pub seconds_kept : Node → ℕ → ℕ
seconds_kept n now = if nat_lt now n.made then 0 else n.made + n.valid_for - now
