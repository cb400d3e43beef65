-- `search::search` meets its contract: what is refused before anything is read; else `search_keeping`'s promise, for either array. Assumes nothing.
use Rattle.std.proofs.lemmas.Result.{err_from_is_err_and}
use Rattle.search.proofs.Verdicts.{promise_refused}
use Rattle.search.proofs.search.Goals as goal

pub returns-in_err-asked : goal.returns-in_err-asked
returns-in_err-asked form c =
    let p = err_from_is_err_and c.from_residual.result c.from_residual.ensures.1 in
    rw (p.1, p.2) (promise_refused _ _ _ _ _ c.in_err-asked.ensures (form.F.Form.numbers c.args.out.now))
