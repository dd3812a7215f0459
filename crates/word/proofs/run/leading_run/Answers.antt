use Rattle.std.proofs.Common.{◌≡◌, ◌<◌, true, false, length, sym, arith}
use Rattle.std.specs.Ordering.{is_lt}
use Rattle.std.proofs.lemmas.Bool.Decides.{nat_tests}
use Rattle.lyndon.proofs.Orders.{is_before, neither_before}
use Rattle.lyndon.proofs.Runs.{reading_start, reading_same, reading_greater, stops_less, stops_end, reading_run}
use Rattle.word.proofs.run.leading_run.Goals as goal
use Rattle.word.proofs.run.leading_run.Goals.{then-before-2, else-before-2}

pub loop-read-init : goal.loop-read-init
loop-read-init g c =
    let some : 0 < length c.args.word.now = grind (arith, nat_tests) in
    (omega arith, omega arith, reading_start (g.met.O.Order.total c.args.order.now) c.args.word.now some)

pub returns-then-before : goal.returns-then-before
returns-then-before g c =
    let o = g.met.O.Order.total c.args.order.now in
    let w = c.args.word.now in
    let l = c.loop-read in
    let R = l.invariant.2 in
    let x = c.index-word-read.result in
    let y = c.index-word-read-in-loop-read.result in
    let less : is_lt (g.O.Order.ranks c.args.order.now y x) ≡ true = sym {b = is_lt (g.O.Order.ranks c.args.order.now y x)} c.if-before.ensures in
    rw (c.within.ensures.period, c.within.ensures.count) (reading_run o w l.read l.period R (omega arith) (stops_less o w l.read l.period R (omega arith) x y c.loop-read-test.true c.index-word-read.is c.index-word-read-in-loop-read.is (is_before _ less)))

pub loop-read-preserved : goal.loop-read-preserved
loop-read-preserved g c =
    let o = g.met.O.Order.total c.args.order.now in
    let w = c.args.word.now in
    let l = c.loop-read in
    let R = l.invariant.2 in
    let x = c.index-word-read.result in
    let y = c.index-word-read-in-loop-read.result in
    let ranks = g.O.Order.ranks c.args.order.now in
    let more = c.loop-read-test.true in
    let hx = c.index-word-read.is in
    let hy = c.index-word-read-in-loop-read.is in
    let not_less : is_lt (ranks y x) ≡ false = sym {b = is_lt (ranks y x)} c.if-before.ensures in
    elim c.if-before-2.branch [
      | then-before-2 a ↦
          let greater : is_lt (ranks x y) ≡ true = sym {b = is_lt (ranks x y)} a.if-before-2.ensures in
          rw a.period-is (omega arith, omega arith, reading_greater o w l.read l.period R (omega arith) x y more hx hy (is_before _ greater))
      | else-before-2 a ↦
          let not_greater : is_lt (ranks x y) ≡ false = sym {b = is_lt (ranks x y)} a.if-before-2.ensures in
          rw a.period-is (omega arith, omega arith, reading_same o w l.read l.period R (omega arith) x y more hx hy (neither_before o x y not_greater not_less))
    ]

pub returns : goal.returns
returns g c =
    let o = g.met.O.Order.total c.args.order.now in
    let w = c.args.word.now in
    let l = c.loop-read in
    let R = l.invariant.2 in
    let some : 0 < length w = grind (arith, nat_tests) in
    let run = reading_run o w l.read l.period R (omega arith) (stops_end o w l.read l.period R (omega arith) (omega arith)) in
    let all : l.read ≡ length w = omega arith in
    rw (c.within-2.ensures.period, c.within-2.ensures.count) (rw all at run)
