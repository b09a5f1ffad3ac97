mod NoRows
