-- One step of a walk that is served over caches and an upstream (RFC 4035 4.3, 4.5).
use Rattle.std.specs.Prelude.{◌≡◌, ◌≤◌, ℕ, ◌+◌, ◌*◌, Bool, true, false, Option}
use Rattle.std.specs.List.{sum_by}
use Rattle.dsec_spec.specs.Names.{Place}
use Rattle.dsec_spec.specs.Accepts.{Accepts}
use Rattle.dsec_spec.specs.Outside.{Table}
use Rattle.dsec_nodes.specs.World.{World}
use Rattle.dsec_nodes.specs.Machine.{Walking, Step, node_get, node_put, ask, done, Input}
use Rattle.dsec_nodes.specs.Nodes.{Node}
use Rattle.dsec_walk.specs.Checks.{sets_in}
use Rattle.dsec_course.specs.Course.{get_node, put_node, ask_for}
use Rattle.dsec_lookup.specs.Outside.{Outside, IsServed}
use Rattle.dsec_single.specs.Trips.{Trip, IsTrip}

-- whether a step is the end
abbrev pub is_last : Step → Bool
is_last (node_get name) = false
is_last (node_put name n) = false
is_last (ask name rtype) = false
is_last (done n) = true

-- a step that asks a question
abbrev pub IsAsking : Step → Type 0
IsAsking (ask name rtype) = Unit {0}
IsAsking (node_get name) = ⊥
IsAsking (node_put name n) = ⊥
IsAsking (done n) = ⊥

-- a step of a walk was served by this input, as that of a message is (RFC 4035 4.3, 4.5)
abbrev pub IsWalkServed : Accepts → Option Table → Outside → Outside → Step → Input → Type 0
IsWalkServed accepts table before after (node_get name) input = IsServed accepts table before after (get_node name) input
IsWalkServed accepts table before after (node_put name n) input = IsServed accepts table before after (put_node name n) input
IsWalkServed accepts table before after (ask name rtype) input = IsServed accepts table before after (ask_for name rtype) input
IsWalkServed accepts table before after (done n) input = ⊥

-- of two counts of checked signatures the later is greater by no more than what is tried of each set that the replies to a walk's questions can have checked
abbrev pub AreFew : World → Walking → ℕ → ℕ → Type 0
AreFew w walk from to = to ≤ from + sum_by sets_in walk.asked * w.bounds.room

-- a walk has come to this step, and few signatures were checked so far
abbrev pub IsOn : World → Option Table → Outside → Outside → Place → Place → Walking → Step → ℕ → ℕ → Type 0
IsOn w table before now top target walk step from to =
    (t : Trip) × (t.walk ≡ walk) × (t.step ≡ step) × IsTrip w table before now top target 0 t × AreFew w t.walk from to

-- it has come so far without memory for more, of which at most one question found none
abbrev pub IsStuck : World → Option Table → Outside → Outside → Place → Place → ℕ → ℕ → Type 0
IsStuck w table before now top target from to =
    (t : Trip) × (lost : ℕ) × (lost ≤ 1) × IsTrip w table before now top target lost t × AreFew w t.walk from to

-- it has come to its end with a node
abbrev pub IsEnded : World → Option Table → Outside → Outside → Place → Place → Node → ℕ → ℕ → Type 0
IsEnded w table before now top target n from to =
    (t : Trip) × (t.step ≡ done n) × IsTrip w table before now top target 0 t × AreFew w t.walk from to
