-- The bench sheet's rows marked P, proved: the one value of the list in specs/.
use mathlib.Core.Path.{refl}
use lib.ListN.{length}
use Rattle.rules.specs.Ground.{legal_sizes}
use Rattle.rules.specs.Look.{need_of}
use Rattle.rules.specs.Stores.{value_entry}
use Rattle.bench_rows.specs.BenchSheet.{BenchSheet}
use Rattle.rules.proofs.Format.Look.{blank-no-entry, blank-no-lead, blank-no-close}
use Rattle.bench_rows.proofs.Fresh.{fresh-made, holds-nothing, deletes-absent}
use Rattle.bench_rows.proofs.LongestValue.{longest-value}
use Rattle.bench_rows.proofs.FullSector.{sixty-writes, need-of-64, twelve-writes}
use Rattle.bench_rows.proofs.FourthWrite.{row-9}
use Rattle.bench_rows.proofs.CutFourthWrite.{row-10}
use Rattle.bench_rows.proofs.Rows.{reopens-at-0, illegal-sizes, format-cut}

pub bench-sheet : BenchSheet
unfolding legal_sizes need_of value_entry
bench-sheet =
    record {
      fresh = fresh-made;
      row1 = (longest-value 1024 4 _ refl refl, longest-value 128 4 _ refl refl);
      row2 = sixty-writes;
      row5 = (λ id value sized. need-of-64 (length value) sized, twelve-writes);
      row7 = λ B cycle scan. (blank-no-entry B cycle scan, blank-no-lead, blank-no-close cycle);
      row8 = reopens-at-0;
      row9 = row-9;
      row10 = row-10;
      row12 = (holds-nothing, deletes-absent);
      row13 = illegal-sizes;
      row14 = format-cut;
    }
