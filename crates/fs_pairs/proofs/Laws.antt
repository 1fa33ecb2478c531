-- What whoever keeps pairs may cite of them.
pub use Rattle.fs_pairs.proofs.Pairing.{distinct_fewer, distinct_freed, distinct_more, freed_spares, given_again, given_and_taken_back, key_is}
