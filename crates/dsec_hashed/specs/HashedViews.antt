-- Names that are hashed, as the code has them.
use Rattle.std.specs.Prelude.{◌≡◌, List, Bool, false, AllPairs}
use Rattle.std.specs.Cmp.Lexicographic.{slice_cmp}
use Rattle.std.specs.Ordering.{nat_cmp, is_lt}
use Rattle.dsec_chain.specs.declared.owners.InsideOwner.{InsideOwner}
use Rattle.dsec_hashed.specs.HashedList.{is_kept}
use Rattle.dsec_hashed.specs.HashedTypes.{Standing}
use Rattle.dsec_hashed.specs.declared.names.HashedName.{HashedName}

-- a name with its hash
abbrev pub hashed_view : HashedName → Standing
hashed_view it = record { hash = it.hash; records = it.records.now; cut = it.is_cut }

-- whether an owner owes an NSEC3 record
abbrev pub is_kept_view : Bool → InsideOwner → Bool
is_kept_view opt_out it = is_kept opt_out it.is_cut it.records.now

-- no later hash is before an earlier one
abbrev pub rises : List HashedName → Type 0
rises names = AllPairs (λ (a b : HashedName). is_lt (slice_cmp nat_cmp b.hash a.hash) ≡ false) names
