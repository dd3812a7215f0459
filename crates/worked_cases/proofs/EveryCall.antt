-- What an audit counts after a run of every call.
use Rattle.std.proofs.Common.{◌≡◌, length, Result, refl, ap, ◌∙◌}
use Rattle.faults.specs.Outcome.{told}
use Rattle.faults.specs.Outcome.Outcome.{answered}
use Rattle.ring_laws.specs.Rings.{Operations}
use Rattle.lyndon.specs.Listing.{lyndon, codes, lengths, keys}
use Rattle.lyndon.specs.Entries.{listing}
use Rattle.bracket_table.specs.Calls.{when_open}
use Rattle.bracket_table.specs.Faults.{table_fault}
use Rattle.bracket_table.specs.Runs.{after, grows_after}
use Rattle.bracket_table.specs.Views.{View, fresh}
use Rattle.bracket_table.specs.declared.fault.TableFault.{TableFault}
use Rattle.table_audit.specs.Law.{EveryList}
use Rattle.table_audit.specs.Outcome.{count_outcome}
use Rattle.table_audit.specs.declared.Growth.{Growth}
use Rattle.worked_cases.specs.EveryCall.{every_call}

-- the shape 2, 2 has three words: of the four grows since it was opened three were accepted
three : grows_after 4 every_call ≡ 3
unfolding lyndon codes lengths keys listing
three = refl

-- so the law says that three entries stand
pub counted : {A : Type 0} (ring : Operations A) (v w : View) (r : Result Growth TableFault) → EveryList ring w → w ≡ after v every_call → v ≡ fresh 4 → told (λ growth. growth.entries) table_fault r ≡ count_outcome w → told (λ growth. growth.entries) table_fault r ≡ answered 3
unfolding EveryList
counted ring v w r law run begun answer =
    let o = (law 4 every_call (run ∙ ap (λ x. after x every_call) begun)).opened (record { k = 2; n = 2 }) refl in
    answer ∙ ap (λ shape. when_open shape (λ _. answered (length w.entries))) o.shape ∙ ap answered (o.count ∙ three)
