-- How chains grow: a DS link and a DNSKEY link lead a chain on, and a set link ends it.
use Rattle.std.proofs.Common.{ℕ, List, [], ◌∷◌, ◌++◌, refl, sym, subst}
use Rattle.dsec_spec.specs.Names.{Place, place}
use Rattle.dsec_spec.specs.Records.{Record}
use Rattle.dsec_spec.specs.Accepts.{Accepts}
use Rattle.dsec_spec.specs.Chain.{Link, IsDsLink, IsKeyLink, IsSetLink, Leads, IsChain, Holds}

-- from held keys, links that lead to a zone lead on to a child by a DS set of the zone and the child's keys
pub leads_on : (accepts : Accepts) (held : Place) (held_keys : List (List ℕ)) (links : List Link) (zone : Place) (keys : List (List ℕ)) (t : ℕ) (above child : Link)
    → Leads accepts held held_keys links zone keys t → IsDsLink accepts zone keys above t → IsKeyLink accepts above child t
    → Leads accepts held held_keys (links ++ above ∷ child ∷ []) (place child.records.owner) child.records.datas t
leads_on accepts held held_keys [] zone keys t above child leads by_ds by_key =
    (subst (λ (k : List (List ℕ)). IsDsLink accepts held k above t) (sym leads.1) (subst (λ (z : Place). IsDsLink accepts z keys above t) (sym leads.0) by_ds), by_key, (refl, refl))
leads_on accepts held held_keys (first ∷ []) zone keys t above child leads by_ds by_key = absurd leads
leads_on accepts held held_keys (first ∷ second ∷ links) zone keys t above child leads by_ds by_key =
    (leads.0, leads.1, leads_on accepts (place second.records.owner) second.records.datas links zone keys t above child leads.2 by_ds by_key)

-- a chain to a zone goes on to a child
pub chain_goes_on : (accepts : Accepts) (anchors : List Record) (links : List Link) (zone : Place) (keys : List (List ℕ)) (t : ℕ) (above child : Link)
    → IsChain accepts anchors links zone keys t → IsDsLink accepts zone keys above t → IsKeyLink accepts above child t
    → IsChain accepts anchors (links ++ above ∷ child ∷ []) (place child.records.owner) child.records.datas t
chain_goes_on accepts anchors [] zone keys t above child chain by_ds by_key = absurd chain
chain_goes_on accepts anchors (first ∷ links) zone keys t above child chain by_ds by_key =
    (chain.0, leads_on accepts (place first.records.owner) first.records.datas links zone keys t above child chain.1 by_ds by_key)

-- a chain to a zone and a set link under its keys show the link's set
pub chain_shows : (accepts : Accepts) (anchors : List Record) (links : List Link) (zone : Place) (keys : List (List ℕ)) (t : ℕ) (last : Link)
    → IsChain accepts anchors links zone keys t → IsSetLink accepts zone keys last t
    → Holds accepts anchors (links ++ last ∷ []) last.records t
chain_shows accepts anchors links zone keys t last chain by_set =
    record { chain = links; last = last; zone = zone; keys = keys; are = refl; leads = chain; shows = by_set; same = refl }
