use Rattle.dsec_sign.proofs.in_out.sign_zone.Goals as goal

pub sign_zone-requires-clause-canonical : goal.sign_zone-requires-clause-canonical
sign_zone-requires-clause-canonical g c = rw c.in-SignInPlace.is at c.requires.canonical

pub sign_zone-requires-in-SignInto-clause-canonical : goal.sign_zone-requires-in-SignInto-clause-canonical
sign_zone-requires-in-SignInto-clause-canonical g c = rw c.in-SignInto.is at c.requires.canonical

pub returns-in-SignInPlace-clause-signed : goal.returns-in-SignInPlace-clause-signed
returns-in-SignInPlace-clause-signed g c = rw c.in-SignInPlace.is c.sign_zone.ensures.signed

pub returns-in-SignInPlace-clause-why : goal.returns-in-SignInPlace-clause-why
returns-in-SignInPlace-clause-why g c = rw c.in-SignInPlace.is c.sign_zone.ensures.why

pub returns-in-SignInPlace-clause-canonical : goal.returns-in-SignInPlace-clause-canonical
returns-in-SignInPlace-clause-canonical g c = rw c.in-SignInPlace.is c.sign_zone.ensures.canonical

pub returns-in-SignInto-clause-signed : goal.returns-in-SignInto-clause-signed
returns-in-SignInto-clause-signed g c = rw c.in-SignInto.is c.sign_zone-in-SignInto.ensures.signed

pub returns-in-SignInto-clause-why : goal.returns-in-SignInto-clause-why
returns-in-SignInto-clause-why g c = rw c.in-SignInto.is c.sign_zone-in-SignInto.ensures.why
