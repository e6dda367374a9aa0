-- A name's text: what is read is what is written, and the other way round.
use Rattle.std.proofs.Common.{◌≡◌, ℕ, zero, suc, ◌<◌, List, [], ◌∷◌, ◌++◌, length, refl, sym, ap, ◌∙◌, subst, arith, append_assoc, inl, inr, ◌⊎◌}
use Rattle.std.specs.Prelude.{All, true, false, Option, Some, None, if◌then◌else◌}
use Rattle.std.specs.Str.{bytes_eq}
use Rattle.std.specs.Cmp.Lexicographic.{bytes_decides}
use Rattle.std.proofs.lemmas.List.{append-nil}
use Rattle.std.proofs.lemmas.List.Elements.{All-append, All-cons, All-nil}
use Rattle.dsec_spec.specs.Names.{Labels}
use Rattle.dsec_spec.specs.Reading.{◌>>=◌}
use Rattle.dsec_name.specs.NameText.{WritesLabels, WritesName, WritesNameIn}
use Rattle.dsec_name.specs.NameText.WritesLabels.{last, before}
use Rattle.dsec_name.specs.NameText.WritesName.{root as lone_dot, open_ended, ended}
use Rattle.dsec_name.specs.NameText.WritesNameIn.{root, relative, absolute}
use Rattle.dsec_name.specs.TextReading.{read_label, then_labels, read_labels_within, read_labels, text_labels_in, text_labels}
use Rattle.dsec_name.proofs.OctetText.{nothing}
use Rattle.dsec_name.proofs.LabelText.{HasLabel, Stops, label_written, label_read}
use Rattle.dsec_name.proofs.TextSteps.{labels_step, last_read, ended_read, more_read}

-- a text writes these labels: with a `.` after them, or with the origin's, or the root's, labels behind them
pub record HasLabels (origin labels : Labels) (text : List ℕ) : Type 0 where
  pub own : Labels
  pub first : List ℕ
  pub writes : WritesLabels own first
  pub is : ((text ≡ first) × (labels ≡ own ++ origin)) ⊎ ((text ≡ first ++ 46 ∷ []) × (labels ≡ own))

last_label : (origin : Labels) (label text : List ℕ) (labels : Labels) → 0 < length label → HasLabel label text [] → label ∷ origin ≡ labels → HasLabels origin labels text
last_label origin label text labels some h e =
    record { own = label ∷ []; first = h.first; writes = last label h.first some h.writes; is = inl (h.is ∙ append-nil h.first, sym e) }

ended_label : (origin : Labels) (label text : List ℕ) (labels : Labels) → 0 < length label → HasLabel label text (46 ∷ []) → label ∷ [] ≡ labels → HasLabels origin labels text
ended_label origin label text labels some h e =
    record { own = label ∷ []; first = h.first; writes = last label h.first some h.writes; is = inr (h.is, sym e) }

more_is : (origin others own labels : Labels) (label text first after rest : List ℕ) → text ≡ first ++ 46 ∷ rest → label ∷ others ≡ labels
    → ((rest ≡ after) × (others ≡ own ++ origin)) ⊎ ((rest ≡ after ++ 46 ∷ []) × (others ≡ own))
    → ((text ≡ first ++ 46 ∷ after) × (labels ≡ (label ∷ own) ++ origin)) ⊎ ((text ≡ (first ++ 46 ∷ after) ++ 46 ∷ []) × (labels ≡ label ∷ own))
more_is origin others own labels label text first after rest e same (inl f) =
    inl (e ∙ ap (λ (x : List ℕ). first ++ 46 ∷ x) f.0, sym same ∙ ap (λ (x : Labels). label ∷ x) f.1)
more_is origin others own labels label text first after rest e same (inr f) =
    inr (e ∙ (ap (λ (x : List ℕ). first ++ 46 ∷ x) f.0 ∙ sym (append_assoc first (46 ∷ after) (46 ∷ []))), sym same ∙ ap (λ (x : Labels). label ∷ x) f.1)

more_labels : (origin : Labels) (label text rest : List ℕ) (labels : Labels) (read : Option Labels) → 0 < length label → HasLabel label text (46 ∷ rest) → ((others : Labels) → read ≡ Some others → HasLabels origin others rest) → (read >>= λ others. Some (label ∷ others)) ≡ Some labels → HasLabels origin labels text
more_labels origin label text rest labels None some h next e = nothing labels e
more_labels origin label text rest labels (Some others) some h next e =
    let l = next others refl in
    let same : label ∷ others ≡ labels = cc in
    record {
      own = label ∷ l.own;
      first = h.first ++ 46 ∷ l.first;
      writes = before label l.own h.first l.first some h.writes l.writes;
      is = more_is origin others l.own labels label text h.first l.first rest h.is same l.is;
    }

then_written : (origin : Labels) (n : ℕ) (text : List ℕ) (p : List ℕ × List ℕ) (labels : Labels) → HasLabel p.0 text p.1 → ((rest : List ℕ) (others : Labels) → read_labels_within origin n rest ≡ Some others → HasLabels origin others rest) → then_labels origin (read_labels_within origin n) p ≡ Some labels → HasLabels origin labels text
then_written origin n text ([], rest) labels h next e = nothing labels e
then_written origin n text (c ∷ label, []) labels h next e = last_label origin (c ∷ label) text labels (omega arith) h (cc)
then_written origin n text (c ∷ label, dot ∷ []) labels h next e =
    ended_label origin (c ∷ label) text labels (omega arith) (subst (λ (x : ℕ). HasLabel (c ∷ label) text (x ∷ [])) h.stops h) (cc)
then_written origin n text (c ∷ label, dot ∷ d ∷ rest) labels h next e =
    more_labels origin (c ∷ label) text (d ∷ rest) labels (read_labels_within origin n (d ∷ rest)) (omega arith)
    (subst (λ (x : ℕ). HasLabel (c ∷ label) text (x ∷ d ∷ rest)) h.stops h) (next (d ∷ rest)) e

bind_written : (origin : Labels) (n : ℕ) (text : List ℕ) (labels : Labels) (read : Option (List ℕ × List ℕ)) → ((p : List ℕ × List ℕ) → read ≡ Some p → HasLabel p.0 text p.1) → ((rest : List ℕ) (others : Labels) → read_labels_within origin n rest ≡ Some others → HasLabels origin others rest) → (read >>= then_labels origin (read_labels_within origin n)) ≡ Some labels → HasLabels origin labels text
bind_written origin n text labels None h next e = nothing labels e
bind_written origin n text labels (Some p) h next e = then_written origin n text p labels (h p refl) next e

labels_written : (origin : Labels) (n : ℕ) (text : List ℕ) (labels : Labels) → read_labels_within origin n text ≡ Some labels → HasLabels origin labels text
labels_written origin zero text labels e = nothing labels e
labels_written origin (suc n) text labels e = bind_written origin n text labels (read_label text) (label_written text) (labels_written origin n) e

-- labels that a text writes have octets, and so has the text
pub labels_some : (labels : Labels) (text : List ℕ) → WritesLabels labels text → All (λ (x : List ℕ). 0 < length x) labels
labels_some _ _ (last label text some w) = All-cons (λ (x : List ℕ). 0 < length x) label [] some (All-nil (λ (x : List ℕ). 0 < length x))
labels_some _ _ (before label labels text rest some w ws) = All-cons (λ (x : List ℕ). 0 < length x) label labels some (labels_some labels rest ws)

-- labels were read, and the text writes them
abbrev Writes : Labels → Labels → List ℕ → Type 0
Writes origin labels text = WritesNameIn origin labels text × All (λ (x : List ℕ). 0 < length x) labels

has_name : (origin labels own : Labels) (text first : List ℕ) → All (λ (x : List ℕ). 0 < length x) origin → WritesLabels own first
    → ((text ≡ first) × (labels ≡ own ++ origin)) ⊎ ((text ≡ first ++ 46 ∷ []) × (labels ≡ own)) → Writes origin labels text
has_name origin labels own text first some w (inl e) = (
  rw (e.0, e.1) (relative own first w),
  rw e.1 (All-append (λ (x : List ℕ). 0 < length x) own origin (labels_some own first w) some),
)
has_name origin labels own text first some w (inr e) = (rw (e.0, e.1) (absolute own first w), rw e.1 (labels_some own first w))

-- what is read is written
pub name_in_written : (origin : Labels) (text : List ℕ) (labels : Labels) → All (λ (x : List ℕ). 0 < length x) origin → text_labels_in origin text ≡ Some labels → Writes origin labels text
name_in_written origin text labels some e =
    elim (bytes_eq text (46 ∷ [])) as (λ t. bytes_eq text (46 ∷ []) ≡ t → (if t then Some [] else read_labels origin text) ≡ Some labels → Writes origin labels text) [
      | true ↦ λ f g.
          let same : [] ≡ labels = cc in
          let dot : text ≡ 46 ∷ [] = (bytes_decides text (46 ∷ [])).0 f in
          (rw (← same, dot) root, subst (λ (x : Labels). All (λ (y : List ℕ). 0 < length y) x) same (All-nil (λ (x : List ℕ). 0 < length x)))
      | false ↦ λ f g.
          let h = labels_written origin (length text) text labels g in
          has_name origin labels h.own text h.first some h.writes h.is
    ] refl e

stops : (end : List ℕ) → (end ≡ []) ⊎ (end ≡ 46 ∷ []) → Stops end
stops [] h = tt
stops (c ∷ end) (inl h) = absurd cc
stops (c ∷ end) (inr h) = cc

-- the labels behind those of a text that ends so
abbrev behind : Labels → List ℕ → Labels
behind origin [] = origin
behind origin (dot ∷ end) = []

end_read : (origin : Labels) (label end : List ℕ) → 0 < length label → (end ≡ []) ⊎ (end ≡ 46 ∷ []) → then_labels origin (read_labels origin) (label, end) ≡ Some (label ∷ behind origin end)
end_read origin label [] some h = last_read origin label [] some (omega arith)
end_read origin label (dot ∷ end) some (inl h) = absurd cc
end_read origin label (dot ∷ end) some (inr h) = ended_read origin label (dot ∷ end) some (let l = ap (λ (x : List ℕ). length x) h in omega arith)

some_text : (origin : Labels) (text : List ℕ) (labels : Labels) → read_labels origin text ≡ Some labels → 0 < length text
some_text origin [] labels e = nothing labels e
some_text origin (c ∷ text) labels e = omega arith

labels_read : (origin labels : Labels) (text end : List ℕ) → WritesLabels labels text → (end ≡ []) ⊎ (end ≡ 46 ∷ []) → read_labels origin (text ++ end) ≡ Some (labels ++ behind origin end)
labels_read origin _ _ end (last label text some w) h =
    labels_step origin (text ++ end)
    ∙ (ap (λ (x : Option (List ℕ × List ℕ)). x >>= then_labels origin (read_labels origin)) (label_read label text end w (stops end h))
    ∙ end_read origin label end some h)
labels_read origin _ _ end (before label labels text rest some w ws) h =
    let others = labels_read origin labels rest end ws h in
    ap (read_labels origin) (append_assoc text (46 ∷ rest) end)
    ∙ (labels_step origin (text ++ 46 ∷ (rest ++ end))
    ∙ (ap (λ (x : Option (List ℕ × List ℕ)). x >>= then_labels origin (read_labels origin)) (label_read label text (46 ∷ (rest ++ end)) w refl)
    ∙ (more_read origin label 46 (rest ++ end) some (some_text origin (rest ++ end) _ others)
    ∙ ap (λ (x : Option Labels). x >>= λ after. Some (label ∷ after)) others)))

pub by_labels : (origin : Labels) (text : List ℕ) (labels : Labels) → read_labels origin text ≡ Some labels → text_labels_in origin text ≡ Some labels
by_labels origin text labels e =
    elim (bytes_eq text (46 ∷ [])) as (λ t. bytes_eq text (46 ∷ []) ≡ t → (if t then Some [] else read_labels origin text) ≡ Some labels) [
      | true ↦ λ f. let none : read_labels origin (46 ∷ []) ≡ Some labels = ap (read_labels origin) (sym ((bytes_decides text (46 ∷ [])).0 f)) ∙ e in nothing labels none
      | false ↦ λ f. e
    ] refl

-- what is written is read
pub name_in_read : (origin labels : Labels) (text : List ℕ) → WritesNameIn origin labels text → text_labels_in origin text ≡ Some labels
name_in_read origin _ _ root = refl
name_in_read origin _ _ (relative labels text w) =
    by_labels origin text (labels ++ origin) (ap (read_labels origin) (sym (append-nil text)) ∙ labels_read origin labels text [] w (inl refl))
name_in_read origin _ _ (absolute labels text w) =
    by_labels origin (text ++ 46 ∷ []) labels (labels_read origin labels text (46 ∷ []) w (inr refl) ∙ ap (λ (x : Labels). Some x) (append-nil labels))

-- ---- with the root for an origin

by_root : (labels : Labels) (text : List ℕ) → WritesNameIn [] labels text → WritesName labels text
by_root _ _ root = lone_dot
by_root _ _ (relative labels text w) = subst (λ (x : Labels). WritesName x text) (sym (append-nil labels)) (open_ended labels text w)
by_root _ _ (absolute labels text w) = ended labels text w

in_root : (labels : Labels) (text : List ℕ) → WritesName labels text → WritesNameIn [] labels text
in_root _ _ lone_dot = root
in_root _ _ (open_ended labels text w) = subst (λ (x : Labels). WritesNameIn [] x text) (append-nil labels) (relative labels text w)
in_root _ _ (ended labels text w) = absolute labels text w

pub name_written : (text : List ℕ) (labels : Labels) → text_labels text ≡ Some labels → WritesName labels text × All (λ (x : List ℕ). 0 < length x) labels
name_written text labels e =
    let w = name_in_written [] text labels (All-nil (λ (x : List ℕ). 0 < length x)) e in
    (by_root labels text w.0, w.1)

pub name_read : (labels : Labels) (text : List ℕ) → WritesName labels text → text_labels text ≡ Some labels
name_read labels text w = name_in_read [] labels text (in_root labels text w)
