-- What the walk to a name's closest encloser means: where it finds the name missing, groups that count are its closest encloser proof (RFC 5155 8.3).
use Rattle.std.proofs.Common.{◌≡◌, ◌≤◌, ◌<◌, ℕ, zero, suc, ◌+◌, ◌-◌, ◌==◌, Bool, true, false, cond, List, [], ◌∷◌, ◌++◌, map, take, drop, length, Option, Some, None, refl, sym, ap, ◌∙◌, subst, arith}
use Rattle.std.proofs.Math.Bool.{not}
use Rattle.std.proofs.lemmas.Bool.{true≢false}
use Rattle.std.proofs.lemmas.List.{take-append-drop}
use Rattle.dsec_spec.specs.Names.{Place, IsAtOrBelow}
use Rattle.dsec_spec.specs.Numbers.{DNAME}
use Rattle.dsec_spec.specs.Zones.{IsNextCloser}
use Rattle.dsec_spec.specs.DenyingRecords.{Nsec3At, has_hashed, opts_out}
use Rattle.dsec_absence.specs.Evidence.{Evidence}
use Rattle.dsec_nsec3.specs.Counting.{HashLimits, Counts, HashedSighting, ignored, stops, hashed, hashed_sighting}
use Rattle.dsec_nsec3.specs.Tests.{matches_hash, covers_hash, is_plain}
use Rattle.dsec_nsec3.specs.Walks.{Look, matched, covered, unseen, bars, halts, exhausts, look_covered, look_by, look_from, Candidate, no_candidate, is_signer, matched_by, Walk, gone, barred, halted, exhausted, unfound, step, top_by, walk_from}
use Rattle.dsec_nsec3.proofs.CountingLaws.{StopsBy, Sights, sighting_is, At, at_first, at_later, Somewhere, somewhere_first, somewhere_later}

-- a name is at or below its first labels from the root down
pub below_front : (n : Place) (d : ℕ) → IsAtOrBelow n (take d n)
below_front n d = record { under = drop d n; is = sym (take-append-drop d n) }

module _ (limits : HashLimits) (class : ℕ) (signer : Place) where
  -- the group counts, and its record matches the name, and lets names below be denied
  pub record IsMatched (n : Place) (e : Evidence) : Type 0 where
    pub r : Nsec3At
    pub counts : Counts limits class signer e r
    pub same : matches_hash r n ≡ true
    pub plain : is_plain r ≡ true

  -- the group counts, and its record covers the name, with Opt-Out or without; where the signer is given, it isn't one with DNAME that matches this
  pub record IsCovering (top : Option Place) (n : Place) (opt_out : Bool) (e : Evidence) : Type 0 where
    pub r : Nsec3At
    pub counts : Counts limits class signer e r
    pub covers : covers_hash r n ≡ true
    pub flag : opts_out r ≡ opt_out
    pub not_own : (s : Place) → top ≡ Some s → has_hashed r DNAME ≡ true → matches_hash r s ≡ true → ⊥

  -- the group counts, and its record matches the name and doesn't let names below be denied; or it covers the name, and is one with DNAME that
  -- matches the signer, where this is given
  pub data IsBarring (top : Option Place) (n : Place) (e : Evidence) : Type 0 where
    bars_by_match : {r : Nsec3At} → Counts limits class signer e r → matches_hash r n ≡ true → is_plain r ≡ false → IsBarring top n e
    bars_by_signer : {r : Nsec3At} {s : Place} → Counts limits class signer e r → covers_hash r n ≡ true → top ≡ Some s → has_hashed r DNAME ≡ true
        → matches_hash r s ≡ true → IsBarring top n e

  -- what a look says
  abbrev pub Looks : Option Place → Place → ℕ → List Evidence → Look → Type 0
  Looks top n i es (matched k left) = At (IsMatched n) i es k
  Looks top n i es (covered k left opt_out) = At (IsCovering top n opt_out) i es k
  Looks top n i es (unseen left) = Unit {0}
  Looks top n i es bars = Somewhere (IsBarring top n) es
  Looks top n i es (halts k why) = At (StopsBy limits class signer why) i es k
  Looks top n i es exhausts = Unit {0}

  looks_later : (top : Option Place) (n : Place) (i : ℕ) (e : Evidence) (es : List Evidence) (l : Look) → Looks top n (i + 1) es l → Looks top n i (e ∷ es) l
  looks_later top n i e es (matched k left) h = at_later (IsMatched n) i e es k h
  looks_later top n i e es (covered k left opt_out) h = at_later (IsCovering top n opt_out) i e es k h
  looks_later top n i e es (unseen left) h = tt
  looks_later top n i e es bars h = somewhere_later (IsBarring top n) e es h
  looks_later top n i e es (halts k why) h = at_later (StopsBy limits class signer why) i e es k h
  looks_later top n i e es exhausts h = tt

  -- and it is so
  pub look_says : (top : Option Place) (n : Place) (i room : ℕ) (es : List Evidence) → Looks top n i es (look_from top n i room (map (hashed_sighting limits class signer) es))
  unfolding look_from
  look_says top n i room [] = tt
  look_says top n i room (e ∷ es) = by (hashed_sighting limits class signer e) (sighting_is limits class signer e) (look_says top n (i + 1) room es) (look_says top n (i + 1) (room - 1) es)
    where
      rest : List HashedSighting
      rest = map (hashed_sighting limits class signer) es

      Here : Look → Type 0
      Here l = Looks top n i (e ∷ es) l

      covering : (r : Nsec3At) → Counts limits class signer e r → covers_hash r n ≡ true → (left : ℕ) (t : Option Place) → top ≡ t → Here (look_covered t i left r)
      covering r c f left None g = at_first (IsCovering top n (opts_out r)) i e es (record { r = r; counts = c; covers = f; flag = refl; not_own = λ s h. absurd (let x = sym g ∙ h in cc) })
      covering r c f left (Some s) g = dname (has_hashed r DNAME) refl (left == 0) (matches_hash r s) refl
        where
          Other : Type 0
          Other = has_hashed r DNAME ≡ true → matches_hash r s ≡ true → ⊥

          its : Other → At (IsCovering top n (opts_out r)) i (e ∷ es) i
          its other = at_first (IsCovering top n (opts_out r)) i e es (record {
            r = r;
            counts = c;
            covers = f;
            flag = refl;
            not_own = λ u h bit same. let is : s ≡ u = let x = sym g ∙ h in cc in other bit (subst (λ (p : Place). matches_hash r p ≡ true) (sym is) same);
          })

          dname : (d : Bool) → has_hashed r DNAME ≡ d → (z m : Bool) → matches_hash r s ≡ m
              → Here (cond (not d) (covered i left (opts_out r)) (cond z exhausts (cond m bars (covered i (left - 1) (opts_out r)))))
          dname false d z m h = its (λ bit _. true≢false (sym bit ∙ d))
          dname true d true m h = tt
          dname true d false true h = somewhere_first (IsBarring top n) e es (bars_by_signer c f g d h)
          dname true d false false h = its (λ _ same. true≢false (sym same ∙ h))

      by_record : (r : Nsec3At) → Counts limits class signer e r → Looks top n (i + 1) es (look_from top n (i + 1) (room - 1) rest)
          → (m : Bool) → matches_hash r n ≡ m → (v : Bool) → covers_hash r n ≡ v → (p : Bool) → is_plain r ≡ p
          → Here (cond m (cond p (matched i (room - 1)) bars) (cond v (look_covered top i (room - 1) r) (look_from top n (i + 1) (room - 1) rest)))
      by_record r c later true f v g true h = at_first (IsMatched n) i e es (record { r = r; counts = c; same = f; plain = h })
      by_record r c later true f v g false h = somewhere_first (IsBarring top n) e es (bars_by_match c f h)
      by_record r c later false f true g p h = covering r c g (room - 1) top refl
      by_record r c later false f false g p h = looks_later top n i e es (look_from top n (i + 1) (room - 1) rest) later

      by_room : (r : Nsec3At) → Counts limits class signer e r → Looks top n (i + 1) es (look_from top n (i + 1) (room - 1) rest) → (z : Bool)
          → Here (cond z exhausts (look_by top n i (room - 1) r (look_from top n (i + 1) (room - 1) rest)))
      by_room r c later true = tt
      by_room r c later false = by_record r c later (matches_hash r n) refl (covers_hash r n) refl (is_plain r) refl

      by : (s : HashedSighting) → Sights limits class signer e s → Looks top n (i + 1) es (look_from top n (i + 1) room rest)
          → Looks top n (i + 1) es (look_from top n (i + 1) (room - 1) rest) → Here (look_from top n i room (s ∷ rest))
      by ignored s same fewer = looks_later top n i e es (look_from top n (i + 1) room rest) same
      by (stops why) s same fewer = at_first (StopsBy limits class signer why) i e es s
      by (hashed r) s same fewer = by_room r s fewer (room == 0)

  -- what is kept of a candidate, the name of so many labels: it is the signer, or is below it and matched
  abbrev IsCandidate : List Evidence → Place → ℕ → Candidate → Type 0
  IsCandidate es n depth no_candidate = Unit {0}
  IsCandidate es n depth is_signer = depth ≡ length signer
  IsCandidate es n depth (matched_by j) = (length signer < depth) × At (IsMatched (take depth n)) 0 es j

  -- by what an encloser, the name of so many labels, is known
  abbrev pub IsKnown : List Evidence → Place → ℕ → Option ℕ → Type 0
  IsKnown es n depth None = depth ≡ length signer
  IsKnown es n depth (Some j) = (length signer < depth) × At (IsMatched (take depth n)) 0 es j

  -- the signer, where no record matches the encloser
  abbrev pub top_of : Option ℕ → Option Place
  top_of None = Some signer
  top_of (Some j) = None

  -- the name is missing: the encloser has so many labels, fewer than the name, and the next closer name is covered
  pub record IsGoneBy (es : List Evidence) (n c : Place) (at_encloser : Option ℕ) (around : ℕ) (opt_out : Bool) : Type 0 where
    pub depth : ℕ
    pub encloser : c ≡ take depth n
    pub fewer : depth < length n
    pub from : length signer ≤ depth
    pub known : IsKnown es n depth at_encloser
    pub covering : At (IsCovering (top_of at_encloser) (take (suc depth) n) opt_out) 0 es around

  -- a group bars the name, or one above it; the signer is the zone's
  pub record IsBarredAt (es : List Evidence) (n : Place) : Type 0 where
    pub top : Option Place
    pub top_is : (s : Place) → top ≡ Some s → s ≡ signer
    pub name : Place
    pub over : IsAtOrBelow n name
    pub by : Somewhere (IsBarring top name) es

  top_is_signer : (above : Candidate) (s : Place) → top_by signer above ≡ Some s → s ≡ signer
  top_is_signer no_candidate s e = absurd cc
  top_is_signer is_signer s e = cc
  top_is_signer (matched_by j) s e = absurd cc

  -- what a walk says
  abbrev pub Walks : List Evidence → Place → Walk → Type 0
  Walks es n (gone c h i opt_out) = IsGoneBy es n c h i opt_out
  Walks es n barred = IsBarredAt es n
  Walks es n (halted i why) = At (StopsBy limits class signer why) 0 es i
  Walks es n exhausted = Unit {0}
  Walks es n unfound = Unit {0}

  step_says : (es : List Evidence) (n : Place) (depth : ℕ) → depth < length n → length signer ≤ depth → (above : Candidate) → IsCandidate es n depth above
      → (l : Look) → Looks (top_by signer above) (take (suc depth) n) 0 es l
      → (later : Candidate → ℕ → Walk) → ((c : Candidate) (left : ℕ) → IsCandidate es n (suc depth) c → Walks es n (later c left))
      → Walks es n (step l (take depth n) above later)
  step_says es n depth fewer from above kept (matched i left) says later goes = goes (matched_by i) left (omega (arith, from), says)
  step_says es n depth fewer from no_candidate kept (covered i left opt_out) says later goes = goes no_candidate left tt
  step_says es n depth fewer from is_signer kept (covered i left opt_out) says later goes =
      record { depth = depth; encloser = refl; fewer = fewer; from = from; known = kept; covering = says }
  step_says es n depth fewer from (matched_by j) kept (covered i left opt_out) says later goes =
      record { depth = depth; encloser = refl; fewer = fewer; from = from; known = kept; covering = says }
  step_says es n depth fewer from above kept (unseen left) says later goes = goes no_candidate left tt
  step_says es n depth fewer from above kept bars says later goes =
      record { top = top_by signer above; top_is = top_is_signer above; name = take (suc depth) n; over = below_front n (suc depth); by = says }
  step_says es n depth fewer from above kept (halts i why) says later goes = says
  step_says es n depth fewer from above kept exhausts says later goes = tt

  -- and it is so
  pub walk_says : (es : List Evidence) (n : Place) (room : ℕ) (above : Candidate) (depth more : ℕ) → depth + more ≤ length n → length signer ≤ depth
      → IsCandidate es n depth above → Walks es n (walk_from (map (hashed_sighting limits class signer) es) signer n room above depth more)
  unfolding walk_from
  walk_says es n room above depth zero fits from kept = tt
  walk_says es n room above depth (suc more) fits from kept =
      step_says es n depth (omega (arith, fits)) from above kept
      (look_from (top_by signer above) (take (suc depth) n) 0 room (map (hashed_sighting limits class signer) es))
      (look_says (top_by signer above) (take (suc depth) n) 0 room es)
      (λ next left. walk_from (map (hashed_sighting limits class signer) es) signer n left next (suc depth) more)
      (λ next left is. walk_says es n left next (suc depth) more (omega (arith, fits)) (omega (arith, from)) is)

  -- from the signer down to a name at or below it
  pub whole_walk : (es : List Evidence) (n : Place) (room : ℕ) → length signer ≤ length n
      → Walks es n (walk_from (map (hashed_sighting limits class signer) es) signer n room is_signer (length signer) (length n - length signer))
  whole_walk es n room within = walk_says es n room is_signer (length signer) (length n - length signer) (omega (arith, within)) (omega arith) refl

-- one label more, of a name that has it
one_more : (n : Place) (d : ℕ) → d < length n → (label : List ℕ) × (take (suc d) n ≡ take d n ++ label ∷ [])
one_more [] d h = absurd (omega (arith, h))
one_more (l ∷ n) zero h = (l, refl)
one_more (l ∷ n) (suc d) h = let rest = one_more n d (omega (arith, h)) in (rest.0, ap (λ (x : Place). l ∷ x) rest.1)

-- and one of them more is the next closer name
pub next_is : (n : Place) (d : ℕ) → d < length n → IsNextCloser n (take d n) (take (suc d) n)
next_is n d h = let more = one_more n d h in record { label = more.0; is = more.1; towards = below_front n (suc d) }
