-- Questions are counted one by one.
use Rattle.std.proofs.Common.{◌≡◌, ℕ, suc, ◌+◌, List, [], ◌∷◌, ◌++◌, length, Option, Some, None, IfSome, refl, sym, ap, ◌∙◌, subst, arith}
use Rattle.std.specs.Prelude.{filter, is_none}
use Rattle.std.proofs.lemmas.List.{length-append}
use Rattle.std.proofs.lemmas.List.Elements.{filter-append}
use Rattle.dsec_spec.specs.Names.{Place}
use Rattle.dsec_spec.specs.Outside.{Entry, Table, risen, risen_by}
use Rattle.dsec_nodes.specs.Machine.{Question as Asked}
use Rattle.dsec_nodes.specs.InStep.{AskedOf}
use Rattle.dsec_nodes.proofs.Each.{all_both}
use Rattle.dsec_lookup.specs.Outside.{Outside, replies_of, failures, AreCounted, HeardMore, faults_after}
use Rattle.dsec_lookup.proofs.HeardLaws.{heard_none, heard_then}

-- one question with its reply
abbrev pub one : Place → ℕ → Option (List ℕ) → Asked
one name rtype octets = record { name = name; rtype = rtype; reply = octets }

one_longer : (asked : List Asked) (q : Asked) → suc (length asked + 0) ≡ length (asked ++ q ∷ []) + 0
one_longer asked q = let l = length-append asked (q ∷ []) in omega (arith, l)

-- failures with one question more
one_failure : (asked : List Asked) (name : Place) (rtype : ℕ) (octets : Option (List ℕ)) (before : ℕ)
    → faults_after (risen_by before (failures asked)) octets ≡ risen_by before (failures (asked ++ one name rtype octets ∷ []))
one_failure asked name rtype octets before = by octets
  where
    parts : (o : Option (List ℕ)) → failures (asked ++ one name rtype o ∷ []) ≡ failures asked + failures (one name rtype o ∷ [])
    parts o =
        let failed = λ (q : Asked). is_none q.reply in
        ap length (filter-append failed asked (one name rtype o ∷ [])) ∙ length-append (filter failed asked) (filter failed (one name rtype o ∷ []))

    by : (o : Option (List ℕ)) → faults_after (risen_by before (failures asked)) o ≡ risen_by before (failures (asked ++ one name rtype o ∷ []))
    by None =
        let e : suc (failures asked) ≡ failures (asked ++ one name rtype None ∷ []) = omega (arith, parts None) in
        ap (risen_by before) e
    by (Some xs) =
        let e : failures asked ≡ failures (asked ++ one name rtype (Some xs) ∷ []) = omega (arith, parts (Some xs)) in
        ap (risen_by before) e

-- a reply of the table is one more of the table's
told_more : (table : Option Table) (asked : List Asked) (name : Place) (rtype : ℕ) (octets : Option (List ℕ)) → IfSome table (λ t. AskedOf (replies_of t) asked)
    → IfSome table (λ t. replies_of t name rtype ≡ octets) → IfSome table (λ t. AskedOf (replies_of t) (asked ++ one name rtype octets ∷ []))
told_more None asked name rtype octets h e = tt
told_more (Some t) asked name rtype octets h e =
    all_both (λ (q : Asked). replies_of t q.name q.rtype ≡ q.reply) asked (one name rtype octets ∷ []) h (e, tt)

-- one more question is counted
pub counted_more : (table : Option Table) (before now next : Outside) (asked : List Asked) (name : Place) (rtype : ℕ) (octets : Option (List ℕ))
    → AreCounted table before now asked 0 → next.asked ≡ risen now.asked → next.faults ≡ faults_after now.faults octets
    → HeardMore now.heard next.heard (one name rtype octets ∷ []) → IfSome table (λ t. replies_of t name rtype ≡ octets)
    → AreCounted table before next (asked ++ one name rtype octets ∷ []) 0
counted_more table before now next asked name rtype octets c a f h t = record {
  questions = a ∙ (ap risen c.questions ∙ ap (risen_by before.asked) (one_longer asked (one name rtype octets)));
  faults = f ∙ (ap (λ (n : ℕ). faults_after n octets) c.faults ∙ one_failure asked name rtype octets before.faults);
  told = told_more table asked name rtype octets c.told t;
  heard = heard_then before.heard now.heard next.heard asked (one name rtype octets ∷ []) c.heard h;
}

-- nothing more was heard
heard_on : (told now next : Option (List Entry)) (asked : List Asked) → next ≡ now → HeardMore told now asked → HeardMore told next asked
heard_on told now next asked e h = subst (λ (z : Option (List Entry)). HeardMore told z asked) (sym e) h

-- nothing more is counted
pub counted_same : (table : Option Table) (before now next : Outside) (asked : List Asked) → AreCounted table before now asked 0 → next.asked ≡ now.asked
    → next.faults ≡ now.faults → next.heard ≡ now.heard → AreCounted table before next asked 0
counted_same table before now next asked c a f h =
    record { questions = a ∙ c.questions; faults = f ∙ c.faults; told = c.told; heard = heard_on before.heard now.heard next.heard asked h c.heard }

-- a question that found no memory
pub counted_lost : (table : Option Table) (before now next : Outside) (asked : List Asked) → AreCounted table before now asked 0
    → next.asked ≡ risen now.asked → next.faults ≡ now.faults → next.heard ≡ now.heard → AreCounted table before next asked 1
counted_lost table before now next asked c a f h =
    let e : suc (length asked + 0) ≡ length asked + 1 = omega arith in
    record {
      questions = a ∙ (ap risen c.questions ∙ ap (risen_by before.asked) e);
      faults = f ∙ c.faults;
      told = c.told;
      heard = heard_on before.heard now.heard next.heard asked h c.heard;
    }

-- before anything was asked
pub counted_none : (table : Option Table) (before : Outside) → AreCounted table before before [] 0
counted_none table before = record { questions = refl; faults = refl; told = by table; heard = heard_none before.heard }
  where
    by : (t : Option Table) → IfSome t (λ x. AskedOf (replies_of x) [])
    by None = tt
    by (Some x) = tt
