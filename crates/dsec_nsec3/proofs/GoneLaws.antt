-- A name that the walk finds missing, by records that count: its closest encloser and its next closer name (RFC 5155 8.3).
use Rattle.std.proofs.Common.{◌≡◌, ◌≤◌, ◌<◌, ℕ, suc, ◌+◌, Bool, false, ◌∷◌, take, length, length-append, Option, Some, None, refl, sym, ap, ◌∙◌, subst, inl, inr, arith}
use Rattle.std.proofs.lemmas.List.{length-take-le, take_at}
use Rattle.dsec_spec.specs.Names.{Place, IsAtOrBelow, IsStrictlyBelow}
use Rattle.dsec_spec.specs.Zones.{IsNextCloser}
use Rattle.dsec_spec.specs.DenyingRecords.{Nsec3At, opts_out, CoversHash}
use Rattle.dsec_spec.proofs.NamesBelow.{below_itself, at_or_below, ancestors_comparable, same_or_below}
use Rattle.dsec_absence.specs.Evidence.{Evidence}
use Rattle.dsec_absence.specs.Answers.{Source}
use Rattle.dsec_nsec3.specs.Counting.{HashLimits, CountsAt}
use Rattle.dsec_nsec3.specs.HashedDenials.{IsAtEncloser, IsPlainEncloser, IsEncloserProof}
use Rattle.dsec_nsec3.specs.HashedProofs.{IsReadIfThere, is_empty, is_read}
use Rattle.dsec_nsec3.specs.HashedAnswers.{next_closer}
use Rattle.dsec_nsec3.specs.Walks.{gone, halted, nsec3_for_not_exists}
use Rattle.dsec_nsec3.proofs.HashTests.{matches_decides, covers_decides, plain_is}
use Rattle.dsec_nsec3.proofs.CountingLaws.{StopsBy, At, at_index}
use Rattle.dsec_nsec3.proofs.WalkLaws.{IsMatched, IsCovering, IsKnown, top_of, IsGoneBy, Walks, whole_walk, below_front, next_is}

-- a name's first labels from the root down, at the length of one that it is under
pub front_is : (n z : Place) → IsAtOrBelow n z → take (length z) n ≡ z
front_is n z h = ap (take (length z)) h.is ∙ take_at z h.under (length z) refl

pub longer : (n z : Place) → IsAtOrBelow n z → length z ≤ length n
longer n z h = let e = ap length h.is in omega (arith, e, length-append z h.under)

-- of a name under another, more labels than the other has are below it
front_below : (n z : Place) (d : ℕ) → IsAtOrBelow n z → length z < d → d ≤ length n → IsStrictlyBelow (take d n) z
front_below n z d h more fits =
    let size = length-take-le d n fits in
    elim (ancestors_comparable n (take d n) z (below_front n d) h) [
      | inl below ↦ elim (same_or_below (take d n) z below) [
        | inl same ↦ absurd (let e = ap length same in omega (arith, e, size, more))
        | inr strictly ↦ strictly
      ]
      | inr above ↦ absurd (let e = ap length above.is in omega (arith, e, size, more, length-append (take d n) (above.next ∷ above.under)))
    ]

-- so a name is below its first labels
strictly_under : (n : Place) (d : ℕ) → d < length n → IsStrictlyBelow n (take d n)
strictly_under n d less = elim (same_or_below n (take d n) (below_front n d)) [
  | inr strictly ↦ strictly
  | inl same ↦ absurd (let e = ap length same in let size = length-take-le d n (omega (arith, less)) in omega (arith, e, size, less))
]

-- The name is missing, as this encloser shows, by records that count: the encloser is the signer, or is matched; the record around the next closer
-- name covers it, with Opt-Out or without (RFC 5155 6, 8.3)
pub record IsShownGone (limits : HashLimits) (s : Source) (n c : Place) (at_encloser : Option ℕ) (around : ℕ) (opt_out : Bool) : Type 0 where
  pub record_there : Option Nsec3At
  pub read_there : IsReadIfThere limits s.class s.signer s.groups at_encloser record_there
  pub record_around : Nsec3At
  pub counts : CountsAt limits s.class s.signer s.groups around record_around
  pub encloser : IsAtEncloser s.signer c record_there
  pub plain : IsPlainEncloser s.signer record_there record_around
  pub closer : IsNextCloser n c (next_closer n c)
  pub covers : CoversHash record_around (next_closer n c)
  pub flag : opts_out record_around ≡ opt_out
  pub under : IsStrictlyBelow n c
  pub within : IsAtOrBelow c s.signer

-- without Opt-Out, that is the closest encloser proof
pub proof_of : (limits : HashLimits) (s : Source) (n c : Place) (h : Option ℕ) (i : ℕ) (g : IsShownGone limits s n c h i false)
    → IsEncloserProof s.signer g.record_there g.record_around n c
proof_of limits s n c h i g = record {
  encloser = g.encloser;
  plain = g.plain;
  next = record { next = next_closer n c; closer = g.closer; covered = record { covers = g.covers; closed = g.flag } };
}

module _ (limits : HashLimits) (s : Source) (n : Place) (within : IsAtOrBelow n s.signer) where
  -- what is known of an encloser
  record Known (depth : ℕ) (h : Option ℕ) (around : Nsec3At) : Type 0 where
    record_there : Option Nsec3At
    read_there : IsReadIfThere limits s.class s.signer s.groups h record_there
    encloser : IsAtEncloser s.signer (take depth n) record_there
    plain : IsPlainEncloser s.signer record_there around

  known_is : (depth : ℕ) → depth < length n → (h : Option ℕ) (i : ℕ) (opt_out : Bool) → IsKnown limits s.class s.signer s.groups n depth h
      → (e : Evidence) (v : IsCovering limits s.class s.signer (top_of limits s.class s.signer h) (take (suc depth) n) opt_out e) → Known depth h v.r
  known_is depth fewer None i opt_out k e v = record {
    record_there = None;
    read_there = is_empty;
    encloser = ap (λ (d : ℕ). take d n) k ∙ front_is n s.signer within;
    plain = λ bit same. v.not_own s.signer refl bit ((matches_decides v.r s.signer).1 same);
  }
  known_is depth fewer (Some j) i opt_out k e v =
      let m = at_index (IsMatched limits s.class s.signer (take depth n)) s.groups j k.1 in
      record {
        record_there = Some m.2.r;
        read_there = is_read (record { evidence = m.0; stands = m.1; counts = m.2.counts });
        encloser = (front_below n s.signer depth within k.0 (omega (arith, fewer)), (matches_decides m.2.r (take depth n)).0 m.2.same);
        plain = plain_is m.2.r m.2.plain;
      }

  -- what the walk finds missing is shown so
  gone_by : (c : Place) (h : Option ℕ) (i : ℕ) (opt_out : Bool) → IsGoneBy limits s.class s.signer s.groups n c h i opt_out → IsShownGone limits s n c h i opt_out
  gone_by c h i opt_out g =
      let v = at_index (IsCovering limits s.class s.signer (top_of limits s.class s.signer h) (take (suc g.depth) n) opt_out) s.groups i g.covering in
      let k = known_is g.depth g.fewer h i opt_out g.known v.0 v.2 in
      let less = g.fewer in
      let size : length (take g.depth n) + 1 ≡ suc g.depth = let l = length-take-le g.depth n (omega (arith, less)) in omega (arith, l) in
      let next : next_closer n (take g.depth n) ≡ take (suc g.depth) n = ap (λ (d : ℕ). take d n) size in
      subst (λ (x : Place). IsShownGone limits s n x h i opt_out) (sym g.encloser) (record {
        record_there = k.record_there;
        read_there = k.read_there;
        record_around = v.2.r;
        counts = record { evidence = v.0; stands = v.1; counts = v.2.counts };
        encloser = k.encloser;
        plain = k.plain;
        closer = subst (λ (x : Place). IsNextCloser n (take g.depth n) x) (sym next) (next_is n g.depth g.fewer);
        covers = subst (λ (x : Place). CoversHash v.2.r x) (sym next) ((covers_decides v.2.r (take (suc g.depth) n)).0 v.2.covers);
        flag = v.2.flag;
        under = strictly_under n g.depth g.fewer;
        within = encloser_within k.record_there k.encloser;
      })
    where
      encloser_within : {x : Place} (e : Option Nsec3At) → IsAtEncloser s.signer x e → IsAtOrBelow x s.signer
      encloser_within {x = x} None p = subst (λ (y : Place). IsAtOrBelow x y) p (below_itself x)
      encloser_within {x = x} (Some e) p = at_or_below x s.signer p.0

  -- nsec3_for_not_exists: the name and its next closer name are missing, and the name given back is the closest encloser (RFC 5155 8.3)
  pub not_exists_shows : (c : Place) (h : Option ℕ) (i : ℕ) (opt_out : Bool) → nsec3_for_not_exists limits s n ≡ gone c h i opt_out → IsShownGone limits s n c h i opt_out
  not_exists_shows c h i opt_out e =
      gone_by c h i opt_out (subst (Walks limits s.class s.signer s.groups n) e (whole_walk limits s.class s.signer s.groups n limits.most_hashes (longer n s.signer within)))

  -- and a group that ends it does
  pub not_exists_halts : (i : ℕ) (why : _) → nsec3_for_not_exists limits s n ≡ halted i why → At (StopsBy limits s.class s.signer why) 0 s.groups i
  not_exists_halts i why e = subst (Walks limits s.class s.signer s.groups n) e (whole_walk limits s.class s.signer s.groups n limits.most_hashes (longer n s.signer within))
