-- The forms that several records share are lawful.
use Rattle.std.proofs.Common.{refl}
use Rattle.kp_jute.specs.Form.{Lawful, ◌⊗◌}
use Rattle.kp_jute.specs.Jute.{unsigned_ints, texts}
use Rattle.kp_jute.proofs.Combined.{◌&◌, seen_lawful}
use Rattle.kp_jute.proofs.Lengths.{texts_lawful}
use Rattle.kp_jute.proofs.Numbers.{unsigned_ints_lawful, unsigned_longs_lawful}
use Rattle.kp_wire.specs.Common.{wire_acls, times, versions, sizes, stats}

pub wire_acls_lawful : Lawful wire_acls
wire_acls_lawful = seen_lawful _ _ (unsigned_ints ⊗ (texts ⊗ texts)) (λ _. refl) (λ _. refl) (unsigned_ints_lawful & (texts_lawful & texts_lawful))

times_lawful : Lawful times
times_lawful = unsigned_longs_lawful & (unsigned_longs_lawful & (unsigned_longs_lawful & unsigned_longs_lawful))

versions_lawful : Lawful versions
versions_lawful = unsigned_ints_lawful & (unsigned_ints_lawful & unsigned_ints_lawful)

sizes_lawful : Lawful sizes
sizes_lawful = unsigned_longs_lawful & (unsigned_ints_lawful & (unsigned_ints_lawful & unsigned_longs_lawful))

pub stats_lawful : Lawful stats
stats_lawful = seen_lawful _ _ (times ⊗ (versions ⊗ sizes)) (λ _. refl) (λ _. refl) (times_lawful & (versions_lawful & sizes_lawful))
