-- What is known of each set that is signed in a zone.
use Rattle.std.proofs.Common.{◌≡◌, ℕ, ◌+◌, ◌<◌, ◌≤◌, false, List, length, take, drop, map, get_or, sym, ◌∙◌, subst, arith, length-drop, length-take-le}
use Rattle.std.specs.Prelude.{All}
use Rattle.std.specs.List.{list_any}
use Rattle.std.proofs.lemmas.List.{get_or-drop, get_or-take, get_or_default, get_or-map, length-map}
use Rattle.dsec_spec.specs.Records.{Record}
use Rattle.dsec_spec.specs.CanonicalRecords.{IsCanonical}
use Rattle.dsec_spec.proofs.Members.{in_map, none_passes}
use Rattle.dsec_sorted.specs.Sets.{AreOfOneSet, differ_in_ttl}
use Rattle.dsec_sign.specs.Places.{IsFound, IsSignable, set_at}
use Rattle.dsec_sign.specs.Runs.{AreRuns, IsRun}
use Rattle.dsec_sign.specs.declared.zone_sets.SetAt.{SetAt}
use Rattle.dsec_sign.proofs.SetRuns.{one_set_parts}

pub run_of_one_set : (run : List Record) → IsRun run → AreOfOneSet run
run_of_one_set run is r s h g =
    let p = one_set_parts is.first r (is.one r h) in
    let q = one_set_parts is.first s (is.one s g) in
    (sym p.0 ∙ q.0, sym p.1 ∙ q.1, sym p.2 ∙ q.2)

-- each of the sets is one
pub runs_of_one_set : (records : List Record) (sets : List SetAt) → AreRuns (map (set_at records) sets) → All (λ it. AreOfOneSet (set_at records it)) sets
runs_of_one_set records sets runs k d lt =
    let e : get_or (map (set_at records) sets) k (set_at records d) ≡ set_at records (get_or sets k d) = get_or-map (set_at records) sets k d (set_at records d) lt in
    run_of_one_set (set_at records (get_or sets k d)) (subst IsRun e (runs.each k (set_at records d) (omega (arith, lt, length-map sets (set_at records)))))

-- records of a list in canonical order, from a place on, are in canonical order
part_canonical : (records : List Record) (start size : ℕ) → IsCanonical records → start + size ≤ length records → IsCanonical (take size (drop start records))
part_canonical records start size canonical within i j d lt lj =
    let long : length (take size (drop start records)) ≡ size = length-take-le size (drop start records) (omega (arith, within, length-drop start records)) in
    let low : j < size = omega (arith, lj, long) in
    rw (get_or-take size (drop start records) i d (omega (arith, lt, low)), get_or-take size (drop start records) j d low, get_or-drop start records i d, get_or-drop start records j d)
    (canonical (start + i) (start + j) d (omega (arith, lt)) (omega (arith, low, within)))

none_differs : (records : List Record) (sets : List SetAt) → list_any differ_in_ttl (map (set_at records) sets) ≡ false → (k : ℕ) (d : SetAt) → k < length sets → differ_in_ttl (set_at records (get_or sets k d)) ≡ false
none_differs records sets none k d lt =
    none_passes differ_in_ttl (map (set_at records) sets) none (set_at records (get_or sets k d))
    (in_map (set_at records) sets (get_or sets k d) (k, lt, get_or_default sets k (get_or sets k d) d lt))

-- sets that were found may be signed as they are, where each is of one TTL
pub all_signable : (records : List Record) (sets : List SetAt) → IsCanonical records → All (IsFound records) sets → All (λ it. AreOfOneSet (set_at records it)) sets
    → list_any differ_in_ttl (map (set_at records) sets) ≡ false → All (IsSignable records) sets
all_signable records sets canonical found one none k d lt = record {
  found = found k d lt;
  one = one k d lt;
  canonical = part_canonical records (get_or sets k d).start (get_or sets k d).size canonical (found k d lt).within;
  ttls = none_differs records sets none k d lt;
}
