use Rattle.hashed.proofs.State.{place_told}
use Rattle.hashed.proofs.store.HashedStore.place.Goals as goal

pub returns : goal.returns
returns c = place_told c.args.self.now c.args.id _ _ c.as_slice.ensures c.place_of.ensures.place
