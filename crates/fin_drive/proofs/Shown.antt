-- What the laws say of the looplets of reads and masks.
use Rattle.fin_drive.specs.Standing.{ReadsShow, MasksShow}
use Rattle.fin_drive.proofs.Along.{driven_shows, driven_sound}
use Rattle.fin_drive.proofs.Apart.{driven_owns, driven_depends, driven_apart, driven_loads}
use Rattle.fin_drive.proofs.Leaves.{driven_leaves, driven_tensor}
use Rattle.fin_drive.proofs.Stops.{driven_stops, driven_paid}
use Rattle.fin_drive.proofs.Tests.{mask_shown}

pub reads_show : ReadsShow
reads_show format r s within apart = record {
  shows = driven_shows format r s within apart;
  leaves = driven_leaves format r s within apart;
  tensor = driven_tensor format r s within apart;
  sound = driven_sound format r s within apart;
  stops = driven_stops format r s within apart;
  paid = driven_paid format r s within apart;
  owns = driven_owns format r s;
  depends = driven_depends format r s;
  apart = driven_apart format r s;
  loads = driven_loads format r s;
}

pub masks_show : MasksShow
masks_show o bare_first bound compares = mask_shown o bare_first bound compares
