-- What caches that forget none hold after gets and puts, and how often these have found no memory.
use Rattle.std.proofs.Common.{◌≡◌, ℕ, suc, ◌+◌, List, [], ◌∷◌, ◌++◌, length, Option, Some, None, refl, sym, ap, ◌∙◌, subst, inl, inr, arith}
use Rattle.std.specs.Prelude.{if◌then◌else◌}
use Rattle.std.proofs.lemmas.List.{length-append}
use Rattle.dsec_spec.specs.Names.{Place, same_place}
use Rattle.dsec_spec.specs.Outside.{risen, risen_by}
use Rattle.dsec_nodes.specs.Nodes.{Node}
use Rattle.dsec_node.specs.Caches.{Held, Lasting, IsFound, Becomes, Wants, with_node, with_nodes}
use Rattle.dsec_lookup.specs.Finding.{GetLeads, PutLeads, CacheCall, got, put, LeadsTo, LeadTo, IsPart, Stored, AreStored}

-- a get that has found memory
pub gives_found : (old new : Option Lasting) (name : Place) (found : Option Node) → IsFound old name found → Becomes old new (λ h. h) → GetLeads old new name found
gives_found old new name found f b = inl (f, b)

-- and one that has found none
pub gives_none : (old new : Option Lasting) (name : Place) → Wants old new → GetLeads old new name None
gives_none old new name w = inr (refl, w)

-- a put that has found memory
pub takes_put : (old new : Option Lasting) (name : Place) (n : Node) → Becomes old new (λ h. with_node h name n) → PutLeads old new name n
takes_put old new name n b = inl b

-- and one that has found none
pub takes_none : (old new : Option Lasting) (name : Place) (n : Node) → Wants old new → PutLeads old new name n
takes_none old new name n w = inr w

-- calls behind others
pub lead_on : (old now new : Option Lasting) (calls more : List CacheCall) → LeadTo old calls now → LeadTo now more new → LeadTo old (calls ++ more) new
lead_on old now new [] more h k = subst (λ (o : Option Lasting). LeadTo o more new) h k
lead_on old now new (c ∷ calls) more h k = (h.0, h.1, lead_on h.0 now new calls more h.2 k)

-- what calls led to before others
pub led_so_far : (old new : Option Lasting) (calls more : List CacheCall) → LeadTo old (calls ++ more) new
    → (now : Option Lasting) × LeadTo old calls now × LeadTo now more new
led_so_far old new [] more h = (old, refl, h)
led_so_far old new (c ∷ calls) more h = let rest = led_so_far h.0 new calls more h.2 in (rest.0, (h.0, h.1, rest.1), rest.2)

-- caches that don't tell what they hold are led to the same by any calls
no_call : (c : CacheCall) → LeadsTo None c None
no_call (got name found) = inl (tt, refl)
no_call (put name n) = inl refl

pub lead_nowhere : (calls : List CacheCall) → LeadTo None calls None
lead_nowhere [] = refl
lead_nowhere (c ∷ calls) = (None, no_call c, lead_nowhere calls)

-- with one node more at the end
one_more : (held : Held) (puts : List Node) (n : Node) (p : Place) → with_nodes held (puts ++ n ∷ []) p ≡ with_node (with_nodes held puts) n.name n p
one_more held [] n p = refl
one_more held (m ∷ puts) n p = one_more (with_node held m.name m) puts n p

part_kept : (part whole : List Node) (n : Node) → IsPart part whole → IsPart (part ++ n ∷ []) (whole ++ n ∷ [])
part_kept [] [] n h = inl (refl, tt)
part_kept [] (m ∷ whole) n h = inr (part_kept [] whole n tt)
part_kept (m ∷ part) [] n h = absurd h
part_kept (m ∷ part) (k ∷ whole) n (inl h) = inl (h.0, part_kept part whole n h.1)
part_kept (m ∷ part) (k ∷ whole) n (inr h) = inr (part_kept (m ∷ part) whole n h)

part_longer : (part whole : List Node) (n : Node) → IsPart part whole → IsPart part (whole ++ n ∷ [])
part_longer [] whole n h = tt
part_longer (m ∷ part) [] n h = absurd h
part_longer (m ∷ part) (k ∷ whole) n (inl h) = inl (h.0, part_longer part whole n h.1)
part_longer (m ∷ part) (k ∷ whole) n (inr h) = inr (part_longer (m ∷ part) whole n h)

-- where nothing was put
nothing_stored : (it : Lasting) → Stored it it []
nothing_stored it = record { kept = []; part = tt; held = λ p. refl; wants = 0; counted = refl; others = omega arith }

pub stored_none : (it : Option Lasting) → AreStored it it []
stored_none None = refl
stored_none (Some it) = nothing_stored it

module _ (old now next : Lasting) (puts : List Node) (s : Stored old now puts) where
  -- a get or a question leaves it
  stored_same : ((p : Place) → next.held p ≡ now.held p) → next.wants ≡ now.wants → Stored old next puts
  stored_same k e = record { kept = s.kept; part = s.part; held = λ p. k p ∙ s.held p; wants = s.wants; counted = e ∙ s.counted; others = s.others }

  -- and so does a get that finds no memory
  stored_wants : ((p : Place) → next.held p ≡ now.held p) → next.wants ≡ risen now.wants → Stored old next puts
  stored_wants k e = record {
    kept = s.kept;
    part = s.part;
    held = λ p. k p ∙ s.held p;
    wants = s.wants + 1;
    counted = e ∙ (ap risen s.counted ∙ one_later s.wants);
    others = omega (arith, s.others);
  }
    where
      one_later : (k : ℕ) → risen (risen_by old.wants k) ≡ risen_by old.wants (k + 1)
      one_later k = let e : suc k ≡ k + 1 = omega arith in ap (risen_by old.wants) e

  module _ (name : Place) (n : Node) (own : n.name ≡ name) where
    longer : length (puts ++ n ∷ []) ≡ length puts + 1
    longer = length-append puts (n ∷ [])

    -- a node is put for its own name
    stored_put : ((p : Place) → next.held p ≡ with_node now.held name n p) → next.wants ≡ now.wants → Stored old next (puts ++ n ∷ [])
    stored_put k e =
        let more : length (s.kept ++ n ∷ []) ≡ length s.kept + 1 = length-append s.kept (n ∷ []) in
        record {
          kept = s.kept ++ n ∷ [];
          part = part_kept s.kept puts n s.part;
          held = λ p.
              k p
              ∙ (ap (λ (x : Option Node). if same_place p name then Some n else x) (s.held p)
              ∙ (ap (λ (q : Place). with_node (with_nodes old.held s.kept) q n p) (sym own) ∙ sym (one_more old.held s.kept n p)));
          wants = s.wants;
          counted = e ∙ s.counted;
          others = omega (arith, s.others, longer, more);
        }

    -- or finds no memory
    stored_lost : ((p : Place) → next.held p ≡ now.held p) → next.wants ≡ risen now.wants → Stored old next (puts ++ n ∷ [])
    unfolding stored_wants
    stored_lost k e =
        let x = stored_wants k e in
        record {
          kept = s.kept;
          part = part_longer s.kept puts n s.part;
          held = x.held;
          wants = s.wants + 1;
          counted = x.counted;
          others = omega (arith, s.others, longer);
        }

-- after a get
pub stored_got : (old now next : Option Lasting) (puts : List Node) (name : Place) (found : Option Node) → AreStored old now puts → GetLeads now next name found
    → AreStored old next puts
stored_got None now next puts name found s (inl g) = subst (λ (o : Option Lasting). Becomes o next (λ h. h)) s g.1
stored_got None now next puts name found s (inr g) = subst (λ (o : Option Lasting). Wants o next) s g.1
stored_got (Some old) now None puts name found s g = tt
stored_got (Some old) None (Some next) puts name found s (inl g) = absurd (let clash : Some next ≡ None = g.1 in cc)
stored_got (Some old) None (Some next) puts name found s (inr g) = absurd (let clash : Some next ≡ None = g.1 in cc)
stored_got (Some old) (Some now) (Some next) puts name found s (inl g) = stored_same old now next puts s g.1.0 g.1.1
stored_got (Some old) (Some now) (Some next) puts name found s (inr g) = stored_wants old now next puts s g.1.0 g.1.1

-- after a put of a node for its own name
pub stored_more : (old now next : Option Lasting) (puts : List Node) (name : Place) (n : Node) → AreStored old now puts → PutLeads now next name n → n.name ≡ name
    → AreStored old next (puts ++ n ∷ [])
stored_more None now next puts name n s (inl t) own = subst (λ (o : Option Lasting). Becomes o next (λ h. with_node h name n)) s t
stored_more None now next puts name n s (inr t) own = subst (λ (o : Option Lasting). Wants o next) s t
stored_more (Some old) now None puts name n s t own = tt
stored_more (Some old) None (Some next) puts name n s (inl t) own = absurd (let clash : Some next ≡ None = t in cc)
stored_more (Some old) None (Some next) puts name n s (inr t) own = absurd (let clash : Some next ≡ None = t in cc)
stored_more (Some old) (Some now) (Some next) puts name n s (inl t) own = stored_put old now next puts s name n own t.0 t.1
stored_more (Some old) (Some now) (Some next) puts name n s (inr t) own = stored_lost old now next puts s name n own t.0 t.1
