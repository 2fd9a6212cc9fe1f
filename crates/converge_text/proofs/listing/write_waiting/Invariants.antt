use Rattle.std.proofs.Common.{◌-◌}
use Rattle.convergence.specs.Places.{place, Fits}
use Rattle.converge_text.specs.Listings.{AreListedTo}
use Rattle.converge_text.proofs.listing.write_waiting.Given as goal

-- the directions so far were listed
abbrev pub invariant-directions : goal.invariant-directions
invariant-directions g l = record {
  fits : Fits l.past;
  listed : AreListedTo l.fn.machine l.past l.count l.fn.output l.written l.output;
}

abbrev pub decreases-directions : goal.decreases-directions
decreases-directions g l = 18446744073709551617 - place l.past
