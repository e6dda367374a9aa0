-- The links of the code.
use Rattle.dsec_spec.specs.Chain as chain
use Rattle.dsec_link.specs.declared.link.LinkKind.{LinkKind}
use Rattle.dsec_link.specs.declared.link.LinkKind.TheVariants.{AnchorKey, AnchorDs, Ds, Key, Set}

-- a link's kind in the code
abbrev pub kind_view : LinkKind → chain.LinkKind
kind_view AnchorKey = chain.anchor_key
kind_view AnchorDs = chain.anchor_ds
kind_view Ds = chain.ds
kind_view Key = chain.key
kind_view Set = chain.set
