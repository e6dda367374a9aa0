-- For a reply no more sets are checked than its question takes.
use Rattle.std.proofs.Common.{◌≡◌, ℕ, ◌+◌, ◌*◌, ◌≤◌, List, Option, Some, None, arith, add-mul, mul-le-mul_right}
use Rattle.dsec_nodes.specs.Walk.{Reached}
use Rattle.dsec_nodes.specs.Machine.{Question as Asked, Phase, begins, gets, asks_first, asks_keys, puts, ends, Walking, name_at, type_at, asked_type}
use Rattle.dsec_walk.specs.Checks.{checked_first, checked_reply, sets_in}

-- so many more of each are no more than of all
pub spent : (a p q k from at to : ℕ) → a + p ≤ q → at ≤ from + p * k → to ≤ at + a * k → to ≤ from + q * k
spent a p q k from at to le h l =
    let most : (a + p) * k ≤ q * k = mul-le-mul_right k le in
    let both : (a + p) * k ≡ a * k + p * k = add-mul a p k in
    omega (arith, most, both, h, l)

-- the sets of a reply are those of the question that it answers
pub reply_sets : (s : Walking) (octets : Option (List ℕ))
    → checked_reply s.phase s.reached octets ≤ sets_in (record { name = name_at s; rtype = asked_type s.phase s.reached; reply = octets })
reply_sets s octets = by s.phase s.reached
  where
    first : (o : Option Reached) → checked_first o octets ≤ sets_in (record { name = name_at s; rtype = type_at o; reply = octets })
    first None = omega arith
    first (Some r) = omega arith

    by : (x : Phase) (o : Option Reached) → checked_reply x o octets ≤ sets_in (record { name = name_at s; rtype = asked_type x o; reply = octets })
    by (asks_keys pending) o = omega arith
    by begins o = first o
    by gets o = first o
    by asks_first o = first o
    by puts o = first o
    by ends o = first o
