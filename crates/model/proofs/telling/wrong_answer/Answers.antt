use Rattle.std.proofs.Common.{◌≡◌, ℕ, refl, ap, arith}
use Rattle.model.proofs.Reading.{last_tally, last_filled}
use Rattle.model.proofs.telling.wrong_answer.Goals as goal

pub returns : goal.returns
returns c =
    record {
      altered_answer = λ e. let apart : ◌≡◌ {A = ℕ} 12 13 = ap last_tally e in omega arith;
      one_fewer = λ e. let apart : ◌≡◌ {A = ℕ} 5 4 = ap last_filled e in omega arith;
      size_behind = refl;
      size_ahead = λ e. let apart : ◌≡◌ {A = ℕ} 3 2 = ap last_filled e in omega arith;
      six_arrive = refl;
      turns_move = refl;
      higher_bids_first = refl;
    }
