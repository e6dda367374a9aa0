-- How many steps a message takes at most until it ends (RFC 4035 5.2).
use Rattle.std.specs.Prelude.{ℕ, ◌+◌, ◌-◌, ◌*◌, List, length, filter_map}
use Rattle.std.specs.List.{sum_by}
use Rattle.dsec_spec.specs.Names.{Place}
use Rattle.dsec_spec.specs.Groups.{Group}
use Rattle.dsec_nodes.specs.World.{World}
use Rattle.dsec_nodes.specs.Machine.{Phase, begins, gets, asks_first, asks_keys, puts, ends, Walking}
use Rattle.dsec_course.specs.Course.{Waiting, to_begin, to_end, for_walk, for_nothing, Course}
use Rattle.dsec_course.specs.Justified.{route_of}

-- how many steps are ahead of a walk at the name that is next: to get its node, to ask for a first set and for a key set; and before it to begin, or
-- to put the node of the name above
abbrev pub steps_in : Phase → ℕ
steps_in begins = 4
steps_in gets = 3
steps_in asks_first = 2
steps_in (asks_keys pending) = 1
steps_in puts = 4
steps_in ends = 0

-- how many steps are ahead of a walk at most: four for each name from the next down to the last, and those that remain at the next
abbrev pub steps_ahead : Walking → ℕ
steps_ahead s = 4 * (1 + length s.target - (length s.top + s.behind)) + steps_in s.phase

-- how many steps a walk from an island to a zone takes at most
abbrev pub most_steps : Place × Place → ℕ
most_steps r = 4 * (1 + length r.1 - length r.0) + 4

-- how many steps these groups take at most
abbrev pub steps_for : World → List Group → ℕ
steps_for w groups = sum_by most_steps (filter_map (route_of w) groups)

-- how many steps a message takes at most until it ends, by what it waits for
abbrev pub steps_by : World → List Group → Waiting → ℕ
steps_by w left to_begin = 1 + steps_for w left
steps_by w left (to_end o) = 1
steps_by w left (for_walk group s) = steps_ahead s + steps_for w left
steps_by w left for_nothing = 0

abbrev pub steps_left : World → Course → ℕ
steps_left w c = steps_by w c.left c.waits
