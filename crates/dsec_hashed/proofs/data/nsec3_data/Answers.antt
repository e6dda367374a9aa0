use Rattle.std.proofs.Common.{◌≡◌, ◌++◌, ◌∷◌, [], ◌∙◌, ap, refl, List, ℕ, arith}
use Rattle.dsec_spec.specs.RecordViews.{hashing_octets, nsec3_octets}
use Rattle.dsec_hashed.specs.Config.{hashing_of}
use Rattle.dsec_hashed.proofs.DataLaws.{nsec3_readable, nsec3_says, nsec3_joined}
use Rattle.dsec_hashed.proofs.data.nsec3_data.Goals as goal

pub new-requires-2 : goal.new-requires-2
new-requires-2 c =
    let config = c.args.config.now in
    let how = hashing_of config in
    let next = c.args.next.now in
    let adds = c.in_ok-push_bitmap.ensures.ok in
    let octets : c.new.result ≡ nsec3_octets (record { hashing = how; next_owner = next; types = adds.bitmap }) =
    c.new.ensures ∙ (adds.is ∙ (ap (λ (x : List ℕ). x ++ adds.bitmap) (c.in_ok-extend_from_slice.ensures.items ∙ ap (λ (x : List ℕ). x ++ next) (c.in_ok-push.ensures.items ∙ ap (λ (x : List ℕ). x ++ 20 ∷ [])
    (c.in_ok-push_hashing.ensures.octets ∙ (ap (λ (x : List ℕ). x ++ hashing_octets (record { hash_algorithm = 1; flags = c.flags_of.result; iterations = config.iterations; salt = config.salt })) c.new-octets.ensures.items
    ∙ ap (λ (f : ℕ). hashing_octets (record { hash_algorithm = 1; flags = f; iterations = config.iterations; salt = config.salt })) c.flags_of.ensures)))) ∙ nsec3_joined how next adds.bitmap c.told-next)) in
    rw octets (nsec3_readable how next c.args.types.now adds.bitmap c.in_ok-push_hashing.ensures.short (let e = c.told-next in omega (arith, e)) adds.of adds.short)

pub returns : goal.returns
returns c =
    let config = c.args.config.now in
    let how = hashing_of config in
    let next = c.args.next.now in
    let adds = c.in_ok-push_bitmap.ensures.ok in
    let octets : c.new.result ≡ nsec3_octets (record { hashing = how; next_owner = next; types = adds.bitmap }) =
    c.new.ensures ∙ (adds.is ∙ (ap (λ (x : List ℕ). x ++ adds.bitmap) (c.in_ok-extend_from_slice.ensures.items ∙ ap (λ (x : List ℕ). x ++ next) (c.in_ok-push.ensures.items ∙ ap (λ (x : List ℕ). x ++ 20 ∷ [])
    (c.in_ok-push_hashing.ensures.octets ∙ (ap (λ (x : List ℕ). x ++ hashing_octets (record { hash_algorithm = 1; flags = c.flags_of.result; iterations = config.iterations; salt = config.salt })) c.new-octets.ensures.items
    ∙ ap (λ (f : ℕ). hashing_octets (record { hash_algorithm = 1; flags = f; iterations = config.iterations; salt = config.salt })) c.flags_of.ensures)))) ∙ nsec3_joined how next adds.bitmap c.told-next)) in
    record {
      nsec3 = record { hashing = how; next_owner = next; types = adds.bitmap };
      hashing = refl;
      next_is = refl;
      bitmap = adds.of;
      is = c.new-2.ensures ∙ ap (λ (x : List ℕ). record { rtype = 50; octets = x }) octets;
      says = nsec3_says how next adds.bitmap c.in_ok-push_hashing.ensures.small;
    }
