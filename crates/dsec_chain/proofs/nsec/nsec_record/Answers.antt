use Rattle.std.proofs.Common.{◌≡◌, ◌++◌, ℕ, List, refl, ap, ◌∙◌, append_assoc, subst}
use Rattle.dsec_spec.specs.Names.{wire_octets}
use Rattle.dsec_spec.specs.NsecChains.{signed_types}
use Rattle.dsec_spec.specs.OwnersInside.{types_inside}
use Rattle.dsec_spec.specs.TypeBitmaps.{IsBitmapOf}
use Rattle.dsec_chain.specs.Views.{inside_view}
use Rattle.dsec_chain.proofs.NsecData.{nsec_readable, nsec_says}
use Rattle.dsec_chain.proofs.nsec.nsec_record.Goals as goal

pub new-rdata-requires : goal.new-rdata-requires
new-rdata-requires c =
    let adds = c.in_ok-push_bitmap.ensures.ok in
    let next = c.args.next.now in
    let octets : c.new.result ≡ wire_octets next ++ adds.bitmap =
    c.new.ensures ∙ (adds.is ∙ ap (λ (x : List ℕ). x ++ adds.bitmap) (c.in_ok-compose.ensures.ok ∙ ap (λ (x : List ℕ). x ++ wire_octets next) c.new-octets.ensures.items)) in
    rw octets (nsec_readable next c.deref.result.now adds.bitmap c.compose.ensures.name adds.of adds.short)

pub returns : goal.returns
returns c =
    let adds = c.in_ok-push_bitmap.ensures.ok in
    let next = c.args.next.now in
    let octets : c.new.result ≡ wire_octets next ++ adds.bitmap =
    c.new.ensures ∙ (adds.is ∙ ap (λ (x : List ℕ). x ++ adds.bitmap) (c.in_ok-compose.ensures.ok ∙ ap (λ (x : List ℕ). x ++ wire_octets next) c.new-octets.ensures.items)) in
    let its = types_inside (inside_view c.args.owner.now) in
    let types : c.deref.result.now ≡ signed_types its =
    c.deref.ensures.value ∙ (c.in_ok-push-2.ensures.items ∙ rw (c.in_ok-push.ensures.items, c.in_ok-push_types.ensures, c.clear.ensures.items, append_assoc) refl) in
    rw (c.new-2.ensures) (record {
      nsec = record { next_name = next; types = adds.bitmap };
      next_is = refl;
      types = subst (λ (xs : List ℕ). IsBitmapOf xs adds.bitmap) types adds.of;
      is = rw (c.in_ok-copied.ensures, c.new-rdata.ensures, octets) refl;
      says = nsec_says next adds.bitmap c.compose.ensures.name;
    })
