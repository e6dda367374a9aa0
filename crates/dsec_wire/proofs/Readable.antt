-- Data that were read are readable.
use Rattle.std.proofs.Common.{◌≡◌, ◌↔◌, ℕ, ◌≤◌, inl, inr, List, [], ◌∷◌, length, Bool, cond, eqb, ◌-◌, Some, None, true, false, refl, sym, ap, ◌∙◌}
use Rattle.std.specs.Prelude.{IsTrue, slice_range, nat_lt}
use Rattle.std.specs.List.{flat_map}
use Rattle.std.specs.Option.{is_some}
use Rattle.std.proofs.lemmas.Bool.{false≢true, ltb-false}
use Rattle.dsec_spec.specs.Layouts.{Field, lowered_name, kept_name, octets, string, bitmap, rest, layout_of}
use Rattle.dsec_spec.specs.Messages.{part_at, parts_at, data_at}
use Rattle.dsec_spec.specs.Reading.{◌>>=◌}
use Rattle.dsec_spec.specs.RecordData.{Part, lowered, kept, part_octets, Fits, AllFit, IsReadable, part_in, parts_of}
use Rattle.dsec_spec.specs.WireNames.{name_at}
use Rattle.dsec_spec.proofs.ReadingLemmas.{from_bind, unrefused, read_as}
use Rattle.dsec_spec.proofs.RecordDataLemmas.{from_part_in, readable_or_not, parts_of-readable}
use Rattle.dsec_spec.proofs.NamesInMessages.{from_name_at}

-- data are readable just where their layout's fields take them all
pub readable_by_parts : (rtype : ℕ) (x : List ℕ) (test : Bool) → test ≡ is_some (parts_of rtype x) → length x ≤ 65535 → IsTrue test ↔ IsReadable rtype x
readable_by_parts rtype x test e most = (
  λ yes. elim (readable_or_not rtype x most) [
    | inl readable ↦ readable
    | inr none ↦ absurd (false≢true (sym (e ∙ ap is_some none) ∙ yes))
  ],
  λ readable. e ∙ ap is_some (parts_of-readable rtype x readable),
)

-- a part that was read in a message is what its field says
plain_fits : (field : Field) (m : List ℕ) (at end : ℕ) (read : Part × ℕ) → (part_in field (slice_range m at end) >>= λ part. Some (part.0, end - length part.1)) ≡ Some read → Fits field read.0
plain_fits field m at end read e =
    let b = from_bind (part_in field (slice_range m at end)) (λ (part : Part × List ℕ). Some (part.0, end - length part.1)) read e in
    read_as (λ (r : Part × ℕ). Fits field r.0) (b.0.0, end - length b.0.1) read b.2 (from_part_in field (slice_range m at end) b.0.0 b.0.1 b.1).0

from_part_at : (field : Field) (m : List ℕ) (at end : ℕ) (read : Part × ℕ) → part_at field m at end ≡ Some read → Fits field read.0
from_part_at lowered_name m at end read e =
    let name = from_bind (name_at m at) _ _ e in
    let u = unrefused (nat_lt end name.0.1) (Some (lowered name.0.0, name.0.1)) read name.2 in
    read_as (λ (r : Part × ℕ). Fits lowered_name r.0) (lowered name.0.0, name.0.1) read u.1 (from_name_at m at name.0.0 name.0.1 name.1).short
from_part_at kept_name m at end read e =
    let name = from_bind (name_at m at) _ _ e in
    let u = unrefused (nat_lt end name.0.1) (Some (kept name.0.0, name.0.1)) read name.2 in
    read_as (λ (r : Part × ℕ). Fits kept_name r.0) (kept name.0.0, name.0.1) read u.1 (from_name_at m at name.0.0 name.0.1 name.1).short
from_part_at (octets n) m at end read e = plain_fits (octets n) m at end read e
from_part_at string m at end read e = plain_fits string m at end read e
from_part_at bitmap m at end read e = plain_fits bitmap m at end read e
from_part_at rest m at end read e = plain_fits rest m at end read e

-- and so are all parts
pub from_parts_at : (fields : List Field) (m : List ℕ) (at end : ℕ) (parts : List Part) → parts_at fields m at end ≡ Some parts → AllFit fields parts
unfolding parts_at
from_parts_at [] m at end parts e =
    let u = found_end (eqb at end) parts e in
    read_as (λ (ps : List Part). AllFit [] ps) [] parts u tt
  where
    found_end : (b : Bool) (parts : List Part) → cond b (Some []) None ≡ Some parts → Some [] ≡ Some parts
    found_end true parts f = f
    found_end false parts f = absurd cc
from_parts_at (field ∷ fields) m at end parts e =
    let part = from_bind (part_at field m at end) _ _ e in
    let others = from_bind (parts_at fields m part.0.1 end) _ _ part.2 in
    read_as (λ (ps : List Part). AllFit (field ∷ fields) ps) (part.0.0 ∷ others.0) parts others.2
    (from_part_at field m at end part.0 part.1, from_parts_at fields m part.0.1 end others.0 others.1)

-- data that were read in a message are readable
pub readable_data_at : (rtype : ℕ) (m : List ℕ) (at end : ℕ) (x : List ℕ) → data_at rtype m at end ≡ Some x → IsReadable rtype x
unfolding data_at
readable_data_at rtype m at end x e =
    let b = from_bind (parts_at (layout_of rtype) m at end) _ _ e in
    let u = unrefused (nat_lt 65535 (length (flat_map part_octets b.0))) (Some (flat_map part_octets b.0)) x b.2 in
    read_as (IsReadable rtype) (flat_map part_octets b.0) x u.1 (record {
      parts = b.0;
      are = record { fit = from_parts_at (layout_of rtype) m at end b.0 b.1; is = refl };
      at_most = ltb-false 65535 _ u.0;
    })
