-- What a map from questions says as a table.
use Rattle.std.proofs.Common.{◌≡◌, ℕ, List, [], ◌∷◌, ◌++◌, Bool, true, false, cond, ◌&&◌, ◌||◌, ◌==◌, refl, sym, ap, ◌∙◌, true≢false, Option, Some, None, Vec, Result, Ok, Err, OnOk, is_some, if◌then◌else◌}
use Rattle.std.specs.List.{find, list_any}
use Rattle.std.specs.Map.{lookup}
use Rattle.std.specs.Cmp.{nat_eq_equiv}
use Rattle.std.specs.declared.alloc.Global.{Global}
use Rattle.dsec_name.specs.NameLaws.{name_eq_equiv}
use Rattle.dsec_name.specs.Parts.{same_name}
use Rattle.dsec_spec.specs.Names.{Labels}
use Rattle.dsec_spec.specs.Outside.{answers, asked_of, reply_of, with_entry}
use Rattle.dsec_outside.specs.declared.replies.Question.{Question}
use Rattle.dsec_outside.specs.Replies.{entry_of, kept_reply, table_of}

abbrev Kept : Type 0
Kept = Question × Option (Vec ℕ Global)

-- whether a question has this name and type
abbrev pub is_for : Labels → ℕ → Question → Bool
is_for name rtype question = same_name name question.name && (rtype == question.rtype)

-- what was found, if it is not to fail
abbrev pub reply_found : Option (Option (Vec ℕ Global)) → Option (List ℕ)
reply_found None = None
reply_found (Some reply) = kept_reply reply

same_test : (name : Labels) (rtype : ℕ) (kept : Kept) → answers name rtype (entry_of kept) ≡ is_for name rtype kept.0
same_test name rtype kept = λ i. name_eq_equiv.symm kept.0.name name i && nat_eq_equiv.symm kept.0.rtype rtype i

-- the reply that a look-up finds is the table's
pub asked_of-lookup : (name : Labels) (rtype : ℕ) (entries : List Kept) → asked_of (table_of entries) name rtype ≡ reply_found (lookup (is_for name rtype) entries)
asked_of-lookup name rtype [] = refl
asked_of-lookup name rtype (kept ∷ entries) =
    ap (λ b. reply_of (cond b (Some (entry_of kept)) (find (answers name rtype) (table_of entries)))) (same_test name rtype kept)
    ∙ by (is_for name rtype kept.0) (asked_of-lookup name rtype entries)
  where
    by : (b : Bool) → asked_of (table_of entries) name rtype ≡ reply_found (lookup (is_for name rtype) entries)
        → reply_of (cond b (Some (entry_of kept)) (find (answers name rtype) (table_of entries))) ≡ reply_found (cond b (Some kept.1) (lookup (is_for name rtype) entries))
    by true h = refl
    by false h = h

any_found : (name : Labels) (rtype : ℕ) (entries : List Kept) → list_any (answers name rtype) (table_of entries) ≡ is_some (lookup (is_for name rtype) entries)
any_found name rtype [] = refl
any_found name rtype (kept ∷ entries) =
    ap (λ b. b || list_any (answers name rtype) (table_of entries)) (same_test name rtype kept)
    ∙ by (is_for name rtype kept.0) (any_found name rtype entries)
  where
    by : (b : Bool) → list_any (answers name rtype) (table_of entries) ≡ is_some (lookup (is_for name rtype) entries)
        → (b || list_any (answers name rtype) (table_of entries)) ≡ is_some (cond b (Some kept.1) (lookup (is_for name rtype) entries))
    by true h = refl
    by false h = h

-- no value
pub none_there : {A : Type 0} (found : Option A) → is_some found ≡ false → found ≡ None
none_there None h = refl
none_there (Some x) h = absurd (true≢false h)

-- a question that is found leaves the table
pub with_entry-found : (kept : Kept) (entries : List Kept) → is_some (lookup (is_for kept.0.name kept.0.rtype) entries) ≡ true → table_of entries ≡ with_entry (table_of entries) (entry_of kept)
with_entry-found kept entries h =
    ap (λ b. if b then table_of entries else table_of entries ++ entry_of kept ∷ []) (sym (any_found kept.0.name kept.0.rtype entries ∙ h))

table_more : (entries : List Kept) (kept : Kept) → table_of (entries ++ kept ∷ []) ≡ table_of entries ++ entry_of kept ∷ []
table_more [] kept = refl
table_more (first ∷ entries) kept = ap (λ table. entry_of first ∷ table) (table_more entries kept)

-- one that isn't found goes last
pub with_entry-new : (kept : Kept) (entries : List Kept) → is_some (lookup (is_for kept.0.name kept.0.rtype) entries) ≡ false → table_of (entries ++ kept ∷ []) ≡ with_entry (table_of entries) (entry_of kept)
with_entry-new kept entries h =
    table_more entries kept
    ∙ ap (λ b. if b then table_of entries else table_of entries ++ entry_of kept ∷ []) (sym (any_found kept.0.name kept.0.rtype entries ∙ h))

-- what follows from what holds at success
pub on_ok : {A E P Q : Type 0} (result : Result A E) → (P → Q) → OnOk result P → OnOk result Q
on_ok (Ok x) f p = f p
on_ok (Err e) f p = tt
