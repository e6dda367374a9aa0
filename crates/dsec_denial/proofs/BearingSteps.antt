-- How an NSEC3 record bears on a name, step by step.
use Rattle.std.proofs.Common.{◌≡◌, ℕ, ◌+◌, ◌*◌, ◌≤◌, ◌==◌, ◌&&◌, ◌||◌, Bool, true, false, List, [], ◌∷◌, Option, Some, None, refl, sym, ap, ◌∙◌, arith}
use Rattle.std.specs.Prelude.{nat_lt}
use Rattle.std.proofs.Math.Bool.{not}
use Rattle.std.proofs.lemmas.Bool.{and_parts, cond-true, cond-false, eqb-true, eq-eqb}
use Rattle.dsec_cause.specs.declared.cause.Cause.{Cause}
use Rattle.dsec_spec.specs.Names.{Place}
use Rattle.dsec_spec.specs.Numbers.{IN, NSEC3}
use Rattle.dsec_spec.specs.RecordViews.{Nsec3}
use Rattle.dsec_spec.specs.DenyingRecords.{hash_by}
use Rattle.dsec_spec.specs.Groups.{Group}
use Rattle.dsec_nodes.specs.World.{World}
use Rattle.dsec_nodes.specs.Nodes.{Node}
use Rattle.dsec_nodes.specs.Looking.{Looked}
use Rattle.dsec_nodes.specs.MissingByHash.{by_hashes, by_owner_hash, has_many, owner_hash_in, is_label_before, by_nsec3, nsec3_in, only_nsec3}
use Rattle.dsec_denial.specs.Findings.{Follows}

-- iterations that are within both bounds are followed
pub followed : (w : World) (nsec3 : Nsec3) (insecure bogus : ℕ) → Follows insecure bogus w → nat_lt bogus nsec3.hashing.iterations ≡ false → nat_lt insecure nsec3.hashing.iterations ≡ false
    → has_many w.bounds nsec3 ≡ false
followed w nsec3 insecure bogus f few less =
    ap (λ (b : Bool). b || nat_lt w.bounds.iterations_insecure nsec3.hashing.iterations) (ap (λ (n : ℕ). nat_lt n nsec3.hashing.iterations) f.bogus_is ∙ few)
    ∙ (ap (λ (n : ℕ). nat_lt n nsec3.hashing.iterations) f.insecure_is ∙ less)

-- what is shown by the hash that the owner's label writes is what the record shows
pub by_label_hash : (w : World) (zone : Node) (keys : List (List ℕ)) (name : Place) (group : Group) (nsec3 : Nsec3) (owner_hash : List ℕ) (shown : Looked) → nat_lt 1 nsec3.hashing.flags ≡ false
    → is_label_before zone.signer group.owner ≡ true → nsec3.hashing.hash_algorithm ≡ 1 → has_many w.bounds nsec3 ≡ false → owner_hash_in group.owner ≡ Some owner_hash
    → shown ≡ by_hashes w zone keys name group nsec3 owner_hash (hash_by nsec3.hashing name) → shown ≡ by_nsec3 w zone keys name group (Some nsec3)
by_label_hash w zone keys name group nsec3 owner_hash shown flags own known few writes e =
    e ∙ sym (cond-false (nat_lt 1 nsec3.hashing.flags) _ _ flags
    ∙ (cond-true (is_label_before zone.signer group.owner) _ _ own
    ∙ (cond-false (not (nsec3.hashing.hash_algorithm == 1)) _ _ (ap not (eq-eqb nsec3.hashing.hash_algorithm 1 known))
    ∙ (cond-false (has_many w.bounds nsec3) _ _ few ∙ ap (by_owner_hash w zone keys name group nsec3) writes))))

-- a group of NSEC3 records is of their type
pub hashed_typed : (group : Group) (nsec3 : Nsec3) → nsec3_in group ≡ Some nsec3 → group.rtype ≡ NSEC3
hashed_typed group nsec3 e = by ((group.rtype == NSEC3) && (group.class == IN)) refl
  where
    by : (b : Bool) → ((group.rtype == NSEC3) && (group.class == IN)) ≡ b → group.rtype ≡ NSEC3
    by true f = eqb-true group.rtype NSEC3 (and_parts _ _ f).0
    by false f = absurd (let none : None ≡ Some nsec3 = sym (cond-false ((group.rtype == NSEC3) && (group.class == IN)) (only_nsec3 group.records) None f) ∙ e in cc)

-- room for one
pub within_one : (n room before now : ℕ) → n ≡ 1 → now ≤ before + room → now ≤ before + n * room
within_one n room before now one h = let all : n * room ≡ 1 * room = ap (λ (k : ℕ). k * room) one in omega (arith, h, all)
