use Rattle.std.proofs.Common.{◌++◌, Some}
use Rattle.converge_text.specs.Requests.{echo_words, most_words}
use Rattle.converge_text.proofs.RequestLemmas.{echo_begins_no_number, same_echo, rest_begins_no_order}
use Rattle.converge_text.proofs.request.read_converge.Goals as goal

pub returns-in_err-echo-clause-complete : goal.returns-in_err-echo-clause-complete
returns-in_err-echo-clause-complete c = λ asked fits words.
    let order = c.read_order-order.ensures.complete asked.order (most_words asked.most ++ echo_words asked.echo)
    fits.0 (rest_begins_no_order asked.most asked.echo) words in
    let most = c.read_most-most.ensures.complete asked.most (echo_words asked.echo) fits.1
    (echo_begins_no_number asked.echo) order.1 in
    let echo = c.in_err-echo.ensures.complete asked.echo most.1 in
    absurd (cc)

pub returns-clause-complete : goal.returns-clause-complete
returns-clause-complete c = λ asked fits words.
    let order = c.read_order-order.ensures.complete asked.order (most_words asked.most ++ echo_words asked.echo)
    fits.0 (rest_begins_no_order asked.most asked.echo) words in
    let most = c.read_most-most.ensures.complete asked.most (echo_words asked.echo) fits.1
    (echo_begins_no_number asked.echo) order.1 in
    let echo = same_echo c.in_ok-echo.echo asked.echo (c.in_ok-echo.ensures.complete asked.echo most.1) in
    λ i. Some (record { order = order.0 i; most = most.0 i; echo = echo i })
