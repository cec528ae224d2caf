use Rattle.crash_disk.specs.Disk.{image_of}
use Rattle.crash_disk.specs.Soundness.{only-settled_image}
use Rattle.crash_disk.proofs.laws.a_synced_disk_leaves_what_it_reads.Goals as goal

pub returns-clause-synced : goal.returns-clause-synced
returns-clause-synced c disk image may = only-settled_image (image_of disk) image (record { zero = may.zero; one = may.one })

pub returns-clause-image : goal.returns-clause-image
returns-clause-image c image left may = only-settled_image image left may
