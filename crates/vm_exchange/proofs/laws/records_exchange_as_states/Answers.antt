use Rattle.vm_exchange.proofs.RecordLemmas.{record_of, same_way, same_response, same_answer}
use Rattle.vm_exchange.proofs.laws.records_exchange_as_states.Goals as goal

pub returns-clause-record : goal.returns-clause-record
returns-clause-record c = record_of

pub returns-clause-ways : goal.returns-clause-ways
returns-clause-ways c = same_way

pub returns-clause-responses : goal.returns-clause-responses
returns-clause-responses c = same_response

pub returns-clause-answers : goal.returns-clause-answers
returns-clause-answers c = same_answer
