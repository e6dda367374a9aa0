use Rattle.std.proofs.Common.{map}
use Rattle.dsec_spec.specs.Names.{place}
use Rattle.dsec_spec.proofs.CanonicalOrder.{canonical_ordered}
use Rattle.dsec_spec.proofs.InsideOwners.{typed_of, inside_are_owners, owners_written}
use Rattle.dsec_sorted.specs.IterViews.{left_of}
use Rattle.dsec_chain.specs.Views.{inside_view}
use Rattle.dsec_chain.proofs.Chained.{typed_view}
use Rattle.dsec_chain.proofs.SoaLaws.{is_soa}
use Rattle.dsec_chain.proofs.nsec.chain_of.Goals as goal

pub inside_owners-requires : goal.inside_owners-requires
inside_owners-requires c = canonical_ordered (left_of c.args.records.now) c.requires.class c.requires.canonical

pub chain_ttl-requires : goal.chain_ttl-requires
chain_ttl-requires c = is_soa (place c.args.apex.now) (left_of c.args.records.now) c.args.soa.now c.requires.soa

pub returns : goal.returns
returns c =
    let inside = map inside_view c.in_ok-owners.owners.items in
    record {
      soa = c.args.soa.now;
      one = c.requires.soa;
      ttl = c.chain_ttl.result;
      kept = c.chain_ttl.ensures;
      owners = typed_of inside;
      are = inside_are_owners (place c.args.apex.now) (left_of c.args.records.now) inside c.in_ok-owners.ensures.inside;
      written = owners_written (place c.args.apex.now) (left_of c.args.records.now) inside c.in_ok-owners.ensures.inside;
      each = rw (← typed_view c.in_ok-owners.owners.items, ← c.keep_typed.ensures, ← c.deref.ensures.value, ← c.class.ensures) c.in_ok-nsecs.ensures;
    }
